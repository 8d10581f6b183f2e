-- The pass that goes with a task, and with the result of some tasks ('Circuit breaker settings').
use Rattle.std.specs.Prelude.{◌≡◌, ◌≢◌, ◌<◌, ◌≤◌, ℕ, ◌*◌, Bool, true, false, IsTrue, List, [], sum_by, Option}
use Rattle.std.specs.List.{AllByRecursion}
use Rattle.agg_model.specs.Breakers.{limit_of}
use Rattle.agg_model.specs.declared.breaker.Limits.{Limits}
use Rattle.agg_model.specs.declared.breaker.Tripped.{Tripped}
use Rattle.agg_model.specs.declared.breaker.Which.{Which}
use Rattle.agg_model.specs.declared.breaker.Which.TheVariants.{Request, Parent}
use Rattle.batch_reduce.specs.Reduced.{at_both}
use Rattle.breaker_words.specs.Accounts.{account, empty_account}
use Rattle.breaker_words.specs.Breakers.{counter_value}
use Rattle.breaker_words.specs.Passes.{IsOf, PassModel}
use Rattle.breaker_words.specs.Views.{hold_of, most_of, seen_of, trips_of, view_of}
use Rattle.breaker_words.specs.declared.trial.Trial.TheVariants.{Rest}
use Rattle.breaker_words.specs.declared.view.View.{View}
use Rattle.pool_results.specs.Pools.{Pool, ceiling_at, peak_at}
use Rattle.pool_results.specs.Runs.{shards_in, times_at, told_by}
use Rattle.pool_results.specs.declared.shard_run.ShardRun.{ShardRun}

-- the pass of a task that has not begun: it may hold what the pool has for the task, and holds nothing
pub record IsFresh (p : Pool) (q s : ℕ) (pass : PassModel) : Type 0 where
  pub of : IsOf p.words pass
  pub is : pass.view ≡ view_of p.words.limits (ceiling_at p q s) pass.view.total

-- the breakers that tasks and merges charge
abbrev pub is_charged : Which → Bool
is_charged Request = true
is_charged Parent = true
is_charged _ = false

-- a breaker refused a charge: the pass saw a total above the limit there
pub record IsSeen (limits : Limits) (v : View) (t : Tripped) : Type 0 where
  pub breaker : IsTrue (is_charged t.which)
  pub limit : t.limit ≡ limit_of limits t.which
  pub above : t.limit < t.wanted
  pub seen : t.wanted ≤ seen_of v t.which

-- the pass of some tasks of the search q, of which so many bytes are held
pub record IsPassOf (p : Pool) (q : ℕ) (runs : List ShardRun) (refused : Option Tripped) (bytes : ℕ) (pass : PassModel) : Type 0 where
  pub of : IsOf p.words pass
  pub rest : pass.view.trial ≡ Rest
  pub some : 1 ≤ pass.view.cap
  pub cap : pass.view.cap ≡ sum_by (ceiling_at p q) (shards_in runs)
  pub request : hold_of pass.view Request ≡ bytes
  pub parent : hold_of pass.view Parent ≡ bytes
  pub most : (x : Which) → most_of pass.view x ≤ at_both (2 * sum_by (peak_at p q) (shards_in runs)) x
  pub told : AllByRecursion (IsSeen p.words.limits pass.view) (told_by refused runs)
  -- each refusal that is told of is a trip, and where none is there is no trip
  pub trips : (x : Which) → counter_value (times_at x (told_by refused runs)) ≤ trips_of pass.view x
  pub no_trips : told_by refused runs ≡ [] → (x : Which) → trips_of pass.view x ≡ 0
  pub others : (x : Which) → x ≢ Request → x ≢ Parent → account pass.view.accounts x ≡ empty_account
