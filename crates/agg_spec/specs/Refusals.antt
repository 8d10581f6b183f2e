-- Where a run of charges is refused ('Circuit breaker settings').
use Rattle.std.specs.Prelude.{◌≡◌, ℕ, List, ◌∷◌, ◌++◌, Some, None}
use Rattle.agg_model.specs.declared.breaker.Child.{Child}
use Rattle.agg_model.specs.declared.breaker.Limits.{Limits}
use Rattle.agg_model.specs.declared.breaker.Tripped.{Tripped}
use Rattle.agg_spec.specs.Charges.{Step, Run, charge, run, refusal_of}

-- The refused charge has one place among the steps: all before it are granted, and it is refused by what is held then.
pub record RefusedAt (limits : Limits) (start : Run) (steps : List Step) (t : Tripped) : Type 0 where
  pub before : List Step
  pub child : Child
  pub bytes : ℕ
  pub after : List Step
  pub place : steps ≡ before ++ charge child bytes ∷ after
  pub granted : (run limits start before).refused ≡ None
  pub refused : refusal_of limits (run limits start before).holds child bytes ≡ Some t
