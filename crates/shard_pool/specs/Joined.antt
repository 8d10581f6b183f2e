-- Passes that were joined to one ('Circuit breaker settings').
use Rattle.std.specs.Prelude.{◌≡◌, ◌≤◌, ◌+◌, List, sum_by}
use Rattle.std.specs.List.{AllByRecursion}
use Rattle.agg_model.specs.declared.breaker.Which.{Which}
use Rattle.breaker_words.specs.Breakers.{counter_value}
use Rattle.breaker_words.specs.Passes.{IsOf, PassModel, WordsModel}
use Rattle.breaker_words.specs.Views.{granted_of, hold_of, most_of, seen_of, trips_of}
use Rattle.breaker_words.specs.declared.trial.Trial.TheVariants.{Rest}
use Rattle.breaker_words.specs.declared.view.View.{View}

-- what the pass saw, the other did too
abbrev pub HasSeen : View → View → Type 0
HasSeen now v = (x : Which) → seen_of v x ≤ seen_of now x

-- the passes that know vs were joined to one that knew old, one after another
pub record IsJoined (b : WordsModel) (old : View) (vs : List View) (now : PassModel) : Type 0 where
  pub of : IsOf b now
  pub rest : now.view.trial ≡ Rest
  pub total : now.view.total ≡ old.total
  pub some : 1 ≤ now.view.cap
  pub cap : now.view.cap ≡ old.cap + sum_by (λ (v : View). v.cap) vs
  pub holds : (x : Which) → hold_of now.view x ≡ hold_of old x + sum_by (λ v. hold_of v x) vs
  pub most : (x : Which) → most_of now.view x ≡ most_of old x + sum_by (λ v. most_of v x) vs
  -- counters stop where they stop
  pub granted : (x : Which) → counter_value (granted_of now.view x) ≡ counter_value (granted_of old x + sum_by (λ v. granted_of v x) vs)
  pub trips : (x : Which) → counter_value (trips_of now.view x) ≡ counter_value (trips_of old x + sum_by (λ v. trips_of v x) vs)
  pub seen : AllByRecursion (HasSeen now.view) vs
