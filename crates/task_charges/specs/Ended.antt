-- How a task leaves its pass: at its end, after a refusal, or where it could not go on (Elasticsearch Reference 8, 'Circuit
-- breaker settings': the request circuit breaker and the parent circuit breaker).
use Rattle.std.specs.Prelude.{◌≡◌, ◌≢◌, ◌⊎◌, ℕ, ℤ, pos, ◌+◌, ◌-◌, ◌≤◌, ◌+ℤ◌, ◌≤ℤ◌, List}
use Rattle.agg_evaluation.specs.Cost.{cost}
use Rattle.agg_evaluation.specs.Rows.{PlacedRow}
use Rattle.agg_evaluation.specs.Shard.{shard_answer}
use Rattle.agg_evaluation.specs.Trace.{peak, sum_before, trace}
use Rattle.agg_model.specs.Breakers.{limit_of}
use Rattle.agg_model.specs.declared.aggregation.Search.{Search}
use Rattle.agg_model.specs.declared.breaker.Limits.{Limits}
use Rattle.agg_model.specs.declared.breaker.Tripped.{Tripped}
use Rattle.agg_model.specs.declared.breaker.Which.{Which}
use Rattle.agg_model.specs.declared.breaker.Which.TheVariants.{Request, Parent}
use Rattle.breaker_tree.specs.Charge.{IsAtRestAgain}
use Rattle.breaker_words.specs.Accounts.{account}
use Rattle.breaker_words.specs.Breakers.{counter_value}
use Rattle.breaker_words.specs.Views.{granted_of, hold_of, most_of, seen_of, trips_of}
use Rattle.breaker_words.specs.declared.view.View.{View}
use Rattle.growth_laws.specs.Amounts.{charged}
use Rattle.growth_laws.specs.Paid.{Standing, granted_total}
use Rattle.growth_laws.specs.Refused.{IsRefusedAt}
use Rattle.task_charges.specs.Charged.{standing_at}

-- the most that stood at a breaker is no more than it was, or than what was held there after some of the amounts
abbrev pub IsMostAfter : List ℤ → Standing → ℕ → Type 0
IsMostAfter ns s most = (most ≤ s.most) ⊎ ((n : ℕ) × (pos most ≤ℤ (pos s.hold +ℤ sum_before ns n)))

-- the same by the most that a task holds
abbrev pub IsBelowPeak : Search → List PlacedRow → Standing → ℕ → Type 0
IsBelowPeak search all s most = (most ≤ s.most) ⊎ (pos most ≤ℤ (pos s.hold +ℤ peak search all))

-- The task holds nothing any more, of its amounts some came to `granted`: v is the pass at its begin, u the pass now.
pub record HasGivenBack (v u : View) (ns : List ℤ) (granted : ℕ) : Type 0 where
  pub same : IsAtRestAgain v u
  pub holds : (x : Which) → hold_of u x ≡ hold_of v x
  pub granted_request : granted_of u Request ≡ granted_total (granted_of v Request + granted)
  pub granted_parent : granted_of u Parent ≡ granted_total (granted_of v Parent + granted)
  pub most_request : IsMostAfter ns (standing_at v Request) (most_of u Request)
  pub most_parent : IsMostAfter ns (standing_at v Parent) (most_of u Parent)
  pub seen : (x : Which) → seen_of v x ≤ seen_of u x
  pub untouched : (x : Which) → x ≢ Request → x ≢ Parent → account u.accounts x ≡ account v.accounts x

-- One of the task's amounts was refused: those before its place were granted, and all was given back.
pub record IsRefused (l : Limits) (v u : View) (ns : List ℤ) (t : Tripped) : Type 0 where
  pub place : ℕ
  pub granted : ℕ
  pub refused : IsRefusedAt ns (hold_of v) (limit_of l) (v.total - v.cap) place granted t
  pub back : HasGivenBack v u ns granted
  pub trip : trips_of u t.which ≡ counter_value (trips_of v t.which + 1)
  pub trips : (x : Which) → x ≢ t.which → trips_of u x ≡ trips_of v x
  pub seen_there : t.wanted ≤ seen_of u t.which

-- The task charged and gave back these amounts, and then gave back all that it held.
pub record IsGivenUp (v u : View) (ns : List ℤ) : Type 0 where
  pub back : HasGivenBack v u ns (charged ns)
  pub trips : (x : Which) → trips_of u x ≡ trips_of v x

-- The task came to its end: its answer is held, all charges of its trace were granted, and its peak was within the limits.
pub record IsDone (l : Limits) (v u : View) (search : Search) (all : List PlacedRow) : Type 0 where
  pub same : IsAtRestAgain v u
  pub hold_request : hold_of u Request ≡ hold_of v Request + cost (shard_answer search all)
  pub hold_parent : hold_of u Parent ≡ hold_of v Parent + cost (shard_answer search all)
  pub granted_request : granted_of u Request ≡ granted_total (granted_of v Request + charged (trace search all))
  pub granted_parent : granted_of u Parent ≡ granted_total (granted_of v Parent + charged (trace search all))
  pub within_request : (pos (hold_of v Request) +ℤ peak search all) ≤ℤ pos l.request
  pub within_parent : (pos (hold_of v Parent) +ℤ peak search all) ≤ℤ pos l.parent
  pub most_request : IsBelowPeak search all (standing_at v Request) (most_of u Request)
  pub most_parent : IsBelowPeak search all (standing_at v Parent) (most_of u Parent)
  pub trips : (x : Which) → trips_of u x ≡ trips_of v x
  pub seen : (x : Which) → seen_of v x ≤ seen_of u x
  pub untouched : (x : Which) → x ≢ Request → x ≢ Parent → account u.accounts x ≡ account v.accounts x
