-- How a pass stands where a run of charges does (Elasticsearch Reference 8, 'Circuit breaker settings'; 'Nodes stats API',
-- breakers).
use Rattle.std.specs.Prelude.{◌≡◌, ◌+◌, None}
use Rattle.agg_model.specs.declared.breaker.Which.{Which}
use Rattle.agg_spec.specs.Charges.{Amounts, Run, amount_at}
use Rattle.breaker_words.specs.Breakers.{counter_value}
use Rattle.breaker_words.specs.Views.{granted_of, hold_of, trips_of}
use Rattle.breaker_words.specs.declared.view.View.{View}

-- what a pass was granted and refused before a run
pub record Before : Type 0 where
  pub granted : Amounts
  pub trips : Amounts

-- the pass holds these amounts
abbrev pub Holds : View → Amounts → Type 0
Holds v a = (x : Which) → hold_of v x ≡ amount_at x a

-- what the pass was granted and refused is what it was before, and what the run was
pub record Counts (before : Before) (v : View) (r : Run) : Type 0 where
  pub granted_is : (x : Which) → granted_of v x ≡ counter_value (amount_at x before.granted + amount_at x r.granted)
  pub trips_are : (x : Which) → trips_of v x ≡ counter_value (amount_at x before.trips + amount_at x r.trips)

-- the pass stands where the run does, which no breaker has ended
pub record StandsAt (before : Before) (v : View) (r : Run) : Type 0 where
  pub going : r.refused ≡ None
  pub holds : Holds v r.holds
  pub counts : Counts before v r
