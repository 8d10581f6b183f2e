-- Options: what is there is not nothing, and is one value.
use Rattle.std.specs.Prelude.{◌≡◌, None, Some}
use Rattle.std.proofs.Common.{ap, subst}

-- nothing is not something
pub none_some : {A X : Type 0} (x : A) → None ≡ Some x → X
none_some x e = absurd (subst (λ o. elim o as (λ _. Type 0) [ None ↦ Unit {0} | Some y ↦ ⊥ ]) e tt)

-- options that are one hold one value
pub some_same : {A : Type 0} (x y : A) → Some x ≡ Some y → x ≡ y
some_same {A = A} x y e = ap (λ o. elim o as (λ _. A) [ None ↦ x | Some z ↦ z ]) e
