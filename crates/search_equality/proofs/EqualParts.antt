-- Derived tests of numbers, flags, texts, lists and enums say that what passes is one and the same.
use Rattle.std.proofs.Math.Bool.{beq}
use Rattle.std.specs.Prelude.{◌≡◌, refl, ◌&&◌, Bool, true, false, nat_eq, List, [], ◌∷◌, Some, None}
use Rattle.std.specs.Cmp.{first_so, second_so, booleans_Decides, signed_Decides, unsigned_Decides}
use Rattle.std.specs.Cmp.Lexicographic.{pointwise, bytes_decides}
use Rattle.std.specs.Option.{option_eq}
use Rattle.std.specs.Ordering.{int_eq}
use Rattle.std.proofs.Common.{◌∙◌, sym, ap, inl, inr}
use denote.Enum.Compared.{by, Each}
use denote.Enum.Declared.{Declared, Choice, intoss}
use denote.Struct.Field.{Field}
use denote.Struct.Values.{Values}

-- what passes this test is one and the same
abbrev pub AreOne : {A : Type 0} → (A → A → Bool) → Type 0
AreOne {A} eq = (a b : A) → eq a b ≡ true → a ≡ b

-- values of two variants do not pass
pub apart : {A : Type 0} → false ≡ true → A
apart e = cc

pub number-one : AreOne nat_eq
number-one a b e = (unsigned_Decides a b).0 e

pub whole-one : AreOne int_eq
whole-one a b e = (signed_Decides a b).0 e

pub text-one : AreOne (pointwise nat_eq)
text-one a b e = (bytes_decides a b).0 e

pub flag-one : AreOne beq
flag-one a b e = (booleans_Decides a b).0 e

module _ {A : Type 0} {eq : A → A → Bool} (one : AreOne eq) where
  -- lists, item by item
  pub items-one : AreOne (pointwise eq)
  items-one [] [] e = refl
  items-one [] (b ∷ bs) e = cc
  items-one (a ∷ as') [] e = cc
  items-one (a ∷ as') (b ∷ bs) e =
      let first = one a b (first_so _ _ e) in
      let rest = items-one as' bs (second_so _ _ e) in
      λ i. first i ∷ rest i

  -- values that may be there
  pub option-one : AreOne (option_eq eq)
  option-one None None e = refl
  option-one None (Some b) e = cc
  option-one (Some a) None e = cc
  option-one (Some a) (Some b) e = ap Some (one a b e)

  -- the last field of a variant
  pub last : (x y : A × Unit {0}) → eq x.0 y.0 ≡ true → x ≡ y
  last x y e = λ i. (one x.0 y.0 e i, tt)

  -- a field, and those behind it
  pub field : {B : Type 0} {rest : B → B → Bool} → AreOne rest → (x y : A × B) → (eq x.0 y.0 && rest x.1 y.1) ≡ true → x ≡ y
  field behind x y e =
      let first = one x.0 y.0 (first_so _ _ e) in
      let others = behind x.1 y.1 (second_so _ _ e) in
      λ i. (first i, others i)

pub no_field : (x y : Unit {0}) → true ≡ true → x ≡ y
no_field x y e = refl

-- so are the values of an enum, where those of each variant are
abbrev pub AllOne : (parts : List (List Field)) → Each Bool parts → Type 0
AllOne [] each = Unit {0}
AllOne (fields ∷ parts) each = ((x y : Values fields) → each.0 x y ≡ true → x ≡ y) × AllOne parts each.1

choice-one : (parts : List (List Field)) (each : Each Bool parts) → AllOne parts each → (c d : Choice parts) → by false false parts each c d ≡ true → c ≡ d
choice-one [] each all c d e = absurd c
choice-one (fields ∷ parts) each all (inl x) (inl y) e = ap inl (all.0 x y e)
choice-one (fields ∷ parts) each all (inl x) (inr y) e = cc
choice-one (fields ∷ parts) each all (inr x) (inl y) e = cc
choice-one (fields ∷ parts) each all (inr x) (inr y) e = ap inr (choice-one parts each.1 all.1 x y e)

pub variants-one : (T : Declared) (as_values : T.D → Choice T.parts) → ((a : T.D) → intoss T.parts (as_values a) ≡ T.to a)
    → (each : Each Bool T.parts) → AllOne T.parts each → (a b : T.D) → by false false T.parts each (as_values a) (as_values b) ≡ true → a ≡ b
variants-one T as_values is each all a b e =
    T.to_one a b (sym (is a) ∙ ap (intoss T.parts) (choice-one T.parts each all (as_values a) (as_values b) e) ∙ is b)
