-- The one row of a context around a row, where no row lies below two rows of one context.
use Rattle.std.proofs.Common.{◌≡◌, ◌≢◌, refl, ℕ, ◌<◌, ◌≤◌, zero, suc, Bool, true, false, List, [], ◌∷◌, length, get_or, filter, cond, sym, ◌∙◌, ap, arith}
use Rattle.std.specs.Prelude.{◌&&◌, ◌||◌, ◌==◌, nat_eq}
use Rattle.std.proofs.lemmas.Bool.{eqb-true, false≢true}
use Rattle.std.proofs.lemmas.Bool.Decides.{nat_tests}
use Rattle.agg_evaluation.specs.Counted.{IsApart, is_around_row}
use Rattle.agg_evaluation.specs.Rows.{PlacedRow, row_of}
use Rattle.shard_columns.proofs.Enclosing.{begins-self}

module _ {A : Type 0} (p : A → Bool) where
  longer : (x : A) (xs : List A) → p x ≡ true → length (filter p (x ∷ xs)) ≡ suc (length (filter p xs))
  longer x xs is = ap (λ (b : Bool). length (cond b (x ∷ filter p xs) (filter p xs))) is

  no_shorter : (x : A) (xs : List A) → length (filter p xs) ≤ length (filter p (x ∷ xs))
  no_shorter x xs = elim (p x) as (λ b. length (filter p xs) ≤ length (cond b (x ∷ filter p xs) (filter p xs))) [ true ↦ omega arith | false ↦ omega arith ]

  some_there : (xs : List A) (i : ℕ) (d : A) → i < length xs → p (get_or xs i d) ≡ true → 1 ≤ length (filter p xs)
  some_there [] i d below is = absurd (omega arith)
  some_there (x ∷ xs) zero d below is = omega (arith, longer x xs is)
  some_there (x ∷ xs) (suc i) d below is = omega (arith, no_shorter x xs, some_there xs i d (omega arith) is)

  -- at most one item passes, so two that pass stand at one place
  pub only_one : (xs : List A) (i j : ℕ) (d : A) → length (filter p xs) ≤ 1 → i < length xs → j < length xs → p (get_or xs i d) ≡ true → p (get_or xs j d) ≡ true → i ≡ j
  only_one [] i j d few i_below j_below i_is j_is = absurd (omega arith)
  only_one (x ∷ xs) zero zero d few i_below j_below i_is j_is = refl
  only_one (x ∷ xs) zero (suc j) d few i_below j_below i_is j_is = absurd (omega (arith, few, longer x xs i_is, some_there xs j d (omega arith) j_is))
  only_one (x ∷ xs) (suc i) zero d few i_below j_below i_is j_is = absurd (omega (arith, few, longer x xs j_is, some_there xs i d (omega arith) i_is))
  only_one (x ∷ xs) (suc i) (suc j) d few i_below j_below i_is j_is = ap suc (only_one xs i j d (omega (arith, few, no_shorter x xs)) (omega arith) (omega arith) i_is j_is)

same-yes : (a : ℕ) → nat_eq a a ≡ true
same-yes a = grind (arith, nat_tests)

other-no : (a b : ℕ) → a ≢ b → nat_eq a b ≡ false
other-no a b other = grind (arith, nat_tests)

module _ (rows : List PlacedRow) (context : ℕ) where
  abbrev is_around : ℕ → ℕ → Bool
  is_around inner outer = is_around_row context (row_of rows inner) (row_of rows outer)

  -- a row of another context is not among those around itself
  pub without_self : (inner n : ℕ) (further : Bool) → (row_of rows inner).context ≢ context → (((row_of rows n).context == context) && ((n == inner) || further)) ≡ (((row_of rows n).context == context) && further)
  without_self inner n further other =
      elim (n == inner) as (λ b. (n == inner) ≡ b → (((row_of rows n).context == context) && (b || further)) ≡ (((row_of rows n).context == context) && further)) [
        | true ↦ λ e.
            let same : n ≡ inner = eqb-true n inner e in
            let no : ((row_of rows n).context == context) ≡ false = ap (λ (k : ℕ). (row_of rows k).context == context) same ∙ other-no (row_of rows inner).context context other in
            ap (λ (b : Bool). b && true) no ∙ sym (ap (λ (b : Bool). b && further) no)
        | false ↦ λ e. refl
      ] refl

  pub around_self : (inner : ℕ) → (row_of rows inner).context ≡ context → is_around inner inner ≡ true
  around_self inner own =
      (λ i. (own i == context) && begins-self (row_of rows inner).place i) ∙ ap (λ (b : Bool). b && true) (same-yes context)

  -- a row of the context is the one around itself
  pub self_alone : IsApart rows → (inner n : ℕ) → inner < length rows → n < length rows → (row_of rows inner).context ≡ context → is_around inner n ≡ (n == inner)
  self_alone apart inner n inner_below n_below own =
      elim (n == inner) as (λ b. (n == inner) ≡ b → is_around inner n ≡ b) [
        | true ↦ λ e. ap (is_around inner) (eqb-true n inner e) ∙ around_self inner own
        | false ↦ λ e. elim (is_around inner n) as (λ b. is_around inner n ≡ b → b ≡ false) [
          | true ↦ λ h.
              let same : n ≡ inner = only_one (is_around_row context (row_of rows inner)) rows n inner _ (apart (row_of rows inner) context) n_below inner_below h (around_self inner own) in
              absurd (false≢true (sym e ∙ (ap (λ (k : ℕ). k == inner) same ∙ same-yes inner)))
          | false ↦ λ h. refl
        ] refl
      ] refl
