-- The first charge of a task, before which it holds nothing.
use Rattle.std.specs.Prelude.{◌≡◌, refl, ℕ, ℤ, pos, ◌-ℤ◌, ◌+◌, ◌-◌, ◌≤◌, List, [], ◌∷◌}
use Rattle.std.proofs.Common.{subst, arith}
use Rattle.std.proofs.lemmas.Int.{ints}
use Rattle.agg_model.specs.declared.breaker.Child.TheVariants as child
use Rattle.agg_model.specs.declared.breaker.Limits.{Limits}
use Rattle.agg_model.specs.declared.breaker.Tripped.{Tripped}
use Rattle.agg_model.specs.declared.breaker.Which.{Which}
use Rattle.agg_model.specs.declared.breaker.Which.TheVariants.{Request, Fielddata, Inflight, Parent}
use Rattle.breaker_tree.specs.Charge.{IsCharged, IsGivenBack, IsTripped}
use Rattle.breaker_words.specs.Breakers.{amount_at}
use Rattle.breaker_words.specs.Soundness.{IsBounded}
use Rattle.breaker_words.specs.Views.{hold_of}
use Rattle.breaker_words.specs.declared.trial.Trial.TheVariants.{Rest}
use Rattle.breaker_words.specs.declared.view.View.{View}
use Rattle.task_charges.proofs.Refusing.{refused}
use Rattle.task_charges.proofs.Steps.{paid-charge, paid-nothing}
use Rattle.task_charges.specs.Charged.{HasPaid}
use Rattle.task_charges.specs.Ended.{IsRefused}

none-back : (w : View) → w.trial ≡ Rest → IsGivenBack w child.Request 0 w
none-back w rest = record {
  same = record { limits = refl; cap = refl; total = refl; rest = rest };
  holds = none;
  granted = λ x. refl;
  trips = λ x. refl;
  most = λ x. refl;
  seen = λ x. refl;
}
  where
    none : (x : Which) → hold_of w x + amount_at Parent 0 x + amount_at Request 0 x ≡ hold_of w x
    none Request = omega arith
    none Fielddata = omega arith
    none Inflight = omega arith
    none Parent = omega arith

module _ (l : Limits) (v w : View) (wanted : ℕ) (rest : v.trial ≡ Rest) (bounded : IsBounded l v) (some : 1 ≤ wanted) where
  all-of-it : wanted ≡ wanted - 0
  all-of-it = omega arith

  first-is : (pos wanted -ℤ pos 0) ≡ pos wanted
  first-is = omega (arith, ints)

  pub begun : IsCharged l v child.Request wanted w → HasPaid l v w (pos wanted ∷ [])
  begun c = subst (λ x. HasPaid l v w (x ∷ [])) first-is
      (paid-charge l v v w [] (paid-nothing l v rest bounded) 0 wanted (omega arith) (subst (λ a. IsCharged l v child.Request a w) all-of-it c))

  pub begin-refused : (more : List ℤ) (t : Tripped) → IsTripped l v child.Request wanted t w → IsRefused l v w (pos wanted ∷ more) t
  begin-refused more t c = subst (λ x. IsRefused l v w (x ∷ more) t) first-is
      (refused l v v [] (paid-nothing l v rest bounded) 0 refl wanted (omega arith) more t w (subst (λ a. IsTripped l v child.Request a t w) all-of-it c) w (none-back w c.same.rest))
