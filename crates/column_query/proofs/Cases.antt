-- What each kind of query matches, as code tests it.
use Rattle.std.proofs.Common.{◌≡◌, refl, ℕ, ◌+◌, Bool, true, false, not, List, [], ◌∷◌, length, filter, sym, ◌∙◌, ap, ltb, suc, arith}
use Rattle.std.proofs.lemmas.Bool.{lt-ltb}
use Rattle.std.specs.Prelude.{◌&&◌, nat_le}
use Rattle.std.specs.List.{list_any, list_all}
use Rattle.agg_model.specs.declared.query.Query.{Query}
use Rattle.agg_model.specs.declared.query.Query.TheVariants as query
use Rattle.agg_model.specs.declared.query.Probe.{Probe}
use Rattle.agg_model.specs.declared.row.Scalar.{Scalar}
use Rattle.agg_evaluation.specs.KeyOrder.{key_eq}
use Rattle.agg_model.specs.ValueKeys.{scalar_key, probe_key}
use Rattle.agg_evaluation.specs.Rows.{PlacedRow, beneath, values_of}
use Rattle.agg_evaluation.specs.Matching.{matches, matches_at}
use Rattle.column_query.proofs.Lists.{any_mapped, all_mapped, count_mapped}
use Rattle.agg_evaluation.proofs.QueryFolds.{fold_query-Bool, fold_query-Nested}

module _ (all : List PlacedRow) (row : PlacedRow) where
  abbrev test : Query → Bool
  test q = matches all q row

  abbrev enough : ℕ → List Query → Bool
  enough minimum should = nat_le minimum (length (filter test should))

  pub matches-Bool : (must must_not should : List Query) (minimum : ℕ) →
      matches all (query.Bool must must_not should minimum) row ≡ (list_all test must && not (list_any test must_not) && enough minimum should)
  matches-Bool must must_not should minimum =
      ap (λ (f : PlacedRow → Bool). f row) (fold_query-Bool (matches_at all) must must_not should minimum)
      ∙ (λ i. all_mapped (λ (q : PlacedRow → Bool). q row) (matches all) must i
      && not (any_mapped (λ (q : PlacedRow → Bool). q row) (matches all) must_not i)
      && nat_le minimum (count_mapped (λ (q : PlacedRow → Bool). q row) (matches all) should i))

  pub without_must : (q : Query) (must must_not should : List Query) (minimum : ℕ) → q ≡ query.Bool must must_not should minimum → list_all test must ≡ false → test q ≡ false
  without_must q must must_not should minimum is fails =
      ap test is ∙ (matches-Bool must must_not should minimum ∙ ap (λ (b : Bool). b && not (list_any test must_not) && enough minimum should) fails)

  pub with_must_not : (q : Query) (must must_not should : List Query) (minimum : ℕ) → q ≡ query.Bool must must_not should minimum → list_all test must ≡ true → list_any test must_not ≡ true → test q ≡ false
  with_must_not q must must_not should minimum is all_hold one_holds =
      ap test is ∙ (matches-Bool must must_not should minimum ∙ (ap (λ (b : Bool). b && not (list_any test must_not) && enough minimum should) all_hold
      ∙ ap (λ (b : Bool). true && not b && enough minimum should) one_holds))

  pub by_should : (q : Query) (must must_not should : List Query) (minimum : ℕ) → q ≡ query.Bool must must_not should minimum → list_all test must ≡ true → list_any test must_not ≡ false → test q ≡ enough minimum should
  by_should q must must_not should minimum is all_hold none_holds =
      ap test is ∙ (matches-Bool must must_not should minimum ∙ (ap (λ (b : Bool). b && not (list_any test must_not) && enough minimum should) all_hold
      ∙ ap (λ (b : Bool). true && not b && enough minimum should) none_holds))

  pub by_beneath : (q : Query) (path : ℕ) (inner : Query) → q ≡ query.Nested path inner → test q ≡ list_any (matches all inner) (beneath all (path + 1) row)
  by_beneath q path inner is = ap test is ∙ ap (λ (f : PlacedRow → Bool). f row) (fold_query-Nested (matches_at all) path inner)

  pub by_terms : (q : Query) (field : ℕ) (values : List Probe) → q ≡ query.Terms field values → test q ≡ list_any (λ v. list_any (λ probe. key_eq (scalar_key v) (probe_key probe)) values) (values_of field row)
  by_terms q field values is = ap test is ∙ (λ i. list_any (λ (v : Scalar). any_mapped (key_eq (scalar_key v)) probe_key values i) (values_of field row))

  some_value : (vs : List Scalar) → ltb 0 (length vs) ≡ list_any (λ v. true) vs
  some_value [] = refl
  some_value (v ∷ vs) = lt-ltb 0 (suc (length vs)) (omega arith)

  pub by_value : (q : Query) (field : ℕ) → q ≡ query.Exists field → ltb 0 (length (values_of field row)) ≡ test q
  by_value q field is = some_value (values_of field row) ∙ sym (ap test is)
