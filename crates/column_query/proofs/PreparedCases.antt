-- What each kind of prepared query says, as code tests it.
use Rattle.std.proofs.Common.{◌≡◌, refl, ℕ, ◌+◌, ◌<◌, zero, suc, Bool, true, false, not, List, [], ◌∷◌, length, get_or, filter, sym, ◌∙◌, ap, ltb, arith}
use Rattle.std.specs.Prelude.{◌&&◌, nat_le}
use Rattle.std.specs.List.{list_any, list_all}
use Rattle.std.proofs.lemmas.Bool.{and_parts, lt-ltb}
use Rattle.agg_model.specs.declared.row.Scalar.{Scalar}
use Rattle.agg_evaluation.specs.Rows.{PlacedRow, beneath, values_of}
use Rattle.column_query.specs.declared.prepared.Prepared.{Prepared}
use Rattle.column_query.specs.declared.prepared.Prepared.TheVariants as prepared
use Rattle.column_query.specs.Prepared.{says, says_at, reads_below, reads_below_at}
use Rattle.column_query.proofs.Lists.{any_mapped, all_mapped, count_mapped}
use Rattle.column_query.proofs.PreparedLevels.{fold_prepared-Bool, fold_prepared-Nested}

pub all_at : {A : Type 0} (p : A → Bool) (xs : List A) (n : ℕ) (x : A) → n < length xs → x ≡ get_or xs n x → list_all p xs ≡ true → p x ≡ true
all_at p [] n x below is all = absurd (omega arith)
all_at p (y ∷ ys) zero x below is all = ap p is ∙ (and_parts (p y) (list_all p ys) all).0
all_at p (y ∷ ys) (suc n) x below is all = all_at p ys n x (omega arith) is (and_parts (p y) (list_all p ys) all).1

module _ (all : List PlacedRow) (row : PlacedRow) where
  abbrev test : Prepared → Bool
  test p = says all p row

  abbrev enough : ℕ → List Prepared → Bool
  enough minimum should = nat_le minimum (length (filter test should))

  pub says-Bool : (must must_not should : List Prepared) (minimum : ℕ) →
      says all (prepared.Bool must must_not should minimum) row ≡ (list_all test must && not (list_any test must_not) && enough minimum should)
  says-Bool must must_not should minimum =
      ap (λ (f : PlacedRow → Bool). f row) (fold_prepared-Bool (says_at all) must must_not should minimum)
      ∙ (λ i. all_mapped (λ (p : PlacedRow → Bool). p row) (says all) must i
      && not (any_mapped (λ (p : PlacedRow → Bool). p row) (says all) must_not i)
      && nat_le minimum (count_mapped (λ (p : PlacedRow → Bool). p row) (says all) should i))

  pub without_must : (q : Prepared) (must must_not should : List Prepared) (minimum : ℕ) → q ≡ prepared.Bool must must_not should minimum → list_all test must ≡ false → test q ≡ false
  without_must q must must_not should minimum is fails =
      ap test is ∙ (says-Bool must must_not should minimum ∙ ap (λ (b : Bool). b && not (list_any test must_not) && enough minimum should) fails)

  pub with_must_not : (q : Prepared) (must must_not should : List Prepared) (minimum : ℕ) → q ≡ prepared.Bool must must_not should minimum → list_all test must ≡ true → list_any test must_not ≡ true → test q ≡ false
  with_must_not q must must_not should minimum is all_hold one_holds =
      ap test is ∙ (says-Bool must must_not should minimum ∙ (ap (λ (b : Bool). b && not (list_any test must_not) && enough minimum should) all_hold
      ∙ ap (λ (b : Bool). true && not b && enough minimum should) one_holds))

  pub by_should : (q : Prepared) (must must_not should : List Prepared) (minimum : ℕ) → q ≡ prepared.Bool must must_not should minimum → list_all test must ≡ true → list_any test must_not ≡ false → test q ≡ enough minimum should
  by_should q must must_not should minimum is all_hold none_holds =
      ap test is ∙ (says-Bool must must_not should minimum ∙ (ap (λ (b : Bool). b && not (list_any test must_not) && enough minimum should) all_hold
      ∙ ap (λ (b : Bool). true && not b && enough minimum should) none_holds))

  pub says-Nested : (path : ℕ) (inner : Prepared) → says all (prepared.Nested path inner) row ≡ list_any (says all inner) (beneath all (path + 1) row)
  says-Nested path inner = ap (λ (f : PlacedRow → Bool). f row) (fold_prepared-Nested (says_at all) path inner)

  pub by_beneath : (q : Prepared) (path : ℕ) (inner : Prepared) → q ≡ prepared.Nested path inner → test q ≡ list_any (says all inner) (beneath all (path + 1) row)
  by_beneath q path inner is = ap test is ∙ says-Nested path inner

  some_value : (vs : List Scalar) → ltb 0 (length vs) ≡ list_any (λ v. true) vs
  some_value [] = refl
  some_value (v ∷ vs) = lt-ltb 0 (suc (length vs)) (omega arith)

  pub by_value : (q : Prepared) (field : ℕ) → q ≡ prepared.Exists field → ltb 0 (length (values_of field row)) ≡ test q
  by_value q field is = some_value (values_of field row) ∙ sym (ap test is)

-- the fields that the parts of a query read
module _ (n : ℕ) where
  pub reads-Bool : (must must_not should : List Prepared) (minimum : ℕ) →
      reads_below n (prepared.Bool must must_not should minimum) ≡ (list_all (reads_below n) must && list_all (reads_below n) must_not && list_all (reads_below n) should)
  reads-Bool must must_not should minimum =
      fold_prepared-Bool (reads_below_at n) must must_not should minimum
      ∙ (λ i. all_mapped (λ (b : Bool). b) (reads_below n) must i && all_mapped (λ (b : Bool). b) (reads_below n) must_not i && all_mapped (λ (b : Bool). b) (reads_below n) should i)

  pub parts-read : (q : Prepared) (must must_not should : List Prepared) (minimum : ℕ) → q ≡ prepared.Bool must must_not should minimum → reads_below n q ≡ true →
      (list_all (reads_below n) must ≡ true) × (list_all (reads_below n) must_not ≡ true) × (list_all (reads_below n) should ≡ true)
  parts-read q must must_not should minimum is reads =
      let parts = and_parts (list_all (reads_below n) must && list_all (reads_below n) must_not) (list_all (reads_below n) should) (sym (reads-Bool must must_not should minimum) ∙ (sym (ap (reads_below n) is) ∙ reads)) in
      let first = and_parts (list_all (reads_below n) must) (list_all (reads_below n) must_not) parts.0 in
      (first.0, first.1, parts.1)

  pub inner-reads : (q : Prepared) (path : ℕ) (inner : Prepared) → q ≡ prepared.Nested path inner → reads_below n q ≡ true → reads_below n inner ≡ true
  inner-reads q path inner is reads = sym (fold_prepared-Nested (reads_below_at n) path inner) ∙ (sym (ap (reads_below n) is) ∙ reads)
