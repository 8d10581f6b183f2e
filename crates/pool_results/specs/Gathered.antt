-- Results of a batch that were taken one after another, and their one pass ('Search API': `batched_reduce_size`; 'Circuit breaker
-- settings').
use Rattle.std.specs.Prelude.{◌≡◌, ◌⊎◌, ◌≤◌, ℕ, Bool, true, false, ◌||◌, List, [], ◌++◌, is_some, option_to_list, sum_by, Option, Some, None}
use Rattle.std.specs.List.{AllByRecursion}
use Rattle.agg_evaluation.specs.Cost.{cost}
use Rattle.agg_model.specs.declared.breaker.Which.{Which}
use Rattle.agg_model.specs.declared.breaker.Which.TheVariants.{Request}
use Rattle.agg_model.specs.declared.partial.Partial.{Partial}
use Rattle.agg_spec.specs.Outcome.{shard_answers}
use Rattle.arrival_moves.specs.Lists.{times}
use Rattle.batch_reduce.specs.Reduced.{at_both}
use Rattle.batch_reduce.specs.declared.reducing.ReduceEnd.{ReduceEnd}
use Rattle.batch_reduce.specs.declared.reducing.ReduceEnd.TheVariants.{Done, Refused, Memory}
use Rattle.breaker_words.specs.Breakers.{counter_value}
use Rattle.breaker_words.specs.Passes.{PassModel}
use Rattle.breaker_words.specs.Views.{granted_of, hold_of}
use Rattle.pool_results.specs.Carried.{AreRuns, PeakFits}
use Rattle.pool_results.specs.Passes.{IsPassOf}
use Rattle.pool_results.specs.Pools.{Pool, gross_at, search_at}
use Rattle.pool_results.specs.Runs.{failures_in, left_in, shards_in}
use Rattle.pool_results.specs.declared.shard_run.ShardRun.{ShardRun}
use Rattle.pool_results.specs.declared.work.Work.{Work}
use Rattle.pool_results.specs.declared.taken.Taken.{Taken}

abbrev pub has_failed : Taken → Bool
has_failed t = is_some t.refused || t.memory

abbrev pub is_stopped : Taken → Bool
is_stopped t = has_failed t || t.skipped

-- the first of two that is there
abbrev pub first_of : {A : Type 0} → Option A → Option A → Option A
first_of None o = o
first_of (Some x) o = Some x

-- a part stands at the end, or memory ran out for it
abbrev pub IsKept : Option Partial → Taken → Taken → Type 0
IsKept part old new = (new ≡ record old { parts = old.parts ++ option_to_list part }) ⊎ (new ≡ record old { memory = true })

-- the first result, without its part
abbrev pub taken_of : Work → Taken
taken_of w = record { search = w.search; runs = w.runs; parts = []; refused = w.refused; memory = w.memory; skipped = w.skipped }

-- a result was joined to those before it
abbrev pub with_work : Work → Taken → Taken
with_work w old = record old {
  runs = old.runs ++ w.runs;
  refused = first_of old.refused w.refused;
  memory = old.memory || w.memory;
  skipped = old.skipped || w.skipped;
}

abbrev pub IsAdded : Work → Taken → Taken → Type 0
IsAdded w old new = IsKept w.part (with_work w old) new

-- what became of all tasks of a batch, by the end of its merge
abbrev pub work_by : ℕ → List ShardRun → Bool → ReduceEnd → Work
work_by q runs skipped (Done part) = record { search = q; runs = runs; part = Some part; refused = None; memory = false; skipped = skipped }
work_by q runs skipped (Refused t) = record { search = q; runs = runs; part = None; refused = Some t; memory = false; skipped = skipped }
work_by q runs skipped Memory = record { search = q; runs = runs; part = None; refused = None; memory = true; skipped = skipped }

pub record IsGathered (p : Pool) (t : Taken) (pass : PassModel) : Type 0 where
  pub runs : AreRuns p t.search t.runs
  -- no shard stands twice
  pub apart : (s : ℕ) → times s (shards_in t.runs) ≤ 1
  pub charge : IsPassOf p t.search t.runs t.refused (hold_of pass.view Request) pass
  pub held : is_stopped t ≡ false → hold_of pass.view Request ≡ sum_by cost t.parts
  pub parts : is_stopped t ≡ false → t.parts ≡ shard_answers p.index (search_at p t.search) (left_in t.runs)
  pub fits : is_stopped t ≡ false → AllByRecursion (PeakFits p t.search) (left_in t.runs)
  pub granted : is_stopped t ≡ false → failures_in t.runs ≡ [] → (x : Which) →
      granted_of pass.view x ≡ counter_value (at_both (sum_by (gross_at p t.search) (shards_in t.runs)) x)
