-- The values of a field in each row of a shard: they ascend, and are of the field's kind.
use Rattle.std.proofs.Common.{◌≡◌, refl, ℕ, Bool, true, false, cond, List, [], ◌∷◌, length, ◌∙◌, ap, arith}
use Rattle.std.specs.Prelude.{◌==◌, ◌+◌, ◌&&◌, nat_le, find, option_map, unwrap_or, Some}
use Rattle.std.proofs.Math.Bool.{Bool-set}
use Rattle.std.proofs.Math.Logic.{∥∥₁_elim}
use Rattle.std.proofs.lemmas.Bool.{and_parts, and_from}
use Rattle.std.proofs.lemmas.Bool.Decides.{nat_tests}
use Rattle.agg_model.specs.declared.mapping.Mapping.{Mapping}
use Rattle.agg_model.specs.declared.row.Document.{Document}
use Rattle.agg_model.specs.declared.row.FieldValues.{FieldValues}
use Rattle.agg_model.specs.declared.row.Scalar.{Scalar}
use Rattle.agg_evaluation.specs.Rows.{values_of, row_of, no_row, rows_of_documents}
use Rattle.agg_evaluation.specs.DocumentFits.{ascend, is_own, is_number_of_values, field_fits, fields_fit}
use Rattle.agg_evaluation.specs.PlacedFits.{placed_fits}
use Rattle.agg_evaluation.proofs.RowsFit.{rows_fit_placed}
use Rattle.shard_columns.specs.Built.{IsBuiltFrom, IsShard}
use Rattle.shard_columns.specs.Columns.{Columns}
use Rattle.shard_columns.proofs.Givens.{all_at}

no_row_fits : (m : Mapping) → placed_fits m no_row ≡ true
no_row_fits m = and_from (nat_le 0 (length m.nested)) _ (grind (arith, nat_tests)) refl

module _ (m : Mapping) (field : ℕ) (holds : List Scalar → Bool) (none : holds [] ≡ true) (some : (context : ℕ) (f : FieldValues) → (f.field == field) ≡ true → field_fits m context f ≡ true → holds f.values ≡ true) where
  of_fields : (context least : ℕ) (fs : List FieldValues) → fields_fit m context least fs ≡ true → holds (unwrap_or (option_map (λ v. v.values) (find (λ v. v.field == field) fs)) []) ≡ true
  of_fields context least [] h = none
  of_fields context least (f ∷ fs) h =
      let first = and_parts (nat_le least f.field) (field_fits m context f && fields_fit m context (f.field + 1) fs) h in
      let rest = and_parts (field_fits m context f) (fields_fit m context (f.field + 1) fs) first.1 in
      by_test (of_fields context (f.field + 1) fs rest.1) rest.0 (f.field == field) refl
    where
      by_test : holds (unwrap_or (option_map (λ v. v.values) (find (λ v. v.field == field) fs)) []) ≡ true → field_fits m context f ≡ true → (b : Bool) → (f.field == field) ≡ b
          → holds (unwrap_or (option_map (λ v. v.values) (cond b (Some f) (find (λ v. v.field == field) fs))) []) ≡ true
      by_test others fits true e = some context f e fits
      by_test others fits false e = others

  -- what holds of the values of a field wherever they fit holds of those of each row
  pub values-hold : (shard : Columns) (n : ℕ) (documents : List Document) → IsBuiltFrom m documents shard → holds (values_of field (row_of shard.rows n)) ≡ true
  values-hold shard n documents built =
      let placed = all_at (placed_fits m) (rows_of_documents documents) no_row (no_row_fits m) (rows_fit_placed m documents built.fit) n in
      let row = row_of (rows_of_documents documents) n in
      let fit = and_parts (nat_le row.context (length m.nested)) (fields_fit m row.context 0 row.values) placed in
      ap (λ (s : Columns). holds (values_of field (row_of s.rows n))) built.columns_are ∙ of_fields row.context 0 row.values fit.1

fits-ascend : (m : Mapping) (context : ℕ) (f : FieldValues) → field_fits m context f ≡ true → ascend f.values ≡ true
fits-ascend m context f h = (and_parts (is_number_of_values (length f.values)) (ascend f.values) (and_parts (is_own m context f.field f.values) (is_number_of_values (length f.values) && ascend f.values) h).1).1

pub values_ascend : (shard : Columns) → IsShard shard → (field n : ℕ) → ascend (values_of field (row_of shard.rows n)) ≡ true
values_ascend shard is field n =
    ∥∥₁_elim is (Bool-set _ _) (λ m. ∥∥₁_elim m.1 (Bool-set _ _) (λ of. values-hold m.0 field ascend refl (λ context f e h. fits-ascend m.0 context f h) shard n of.0 of.1))
