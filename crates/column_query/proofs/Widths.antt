-- The whole numbers of rows have 64 bits.
use Rattle.std.specs.Prelude.{◌≡◌, refl, ℕ, suc, ◌+◌, ◌^◌, ◌==◌, ◌≤◌, true, false, cond, ◌&&◌, List, [], ◌∷◌, find, length, option_map, unwrap_or, slice_get, Some, None, ℤ, pos, negsuc, neg_ℤ, int_le, int_lt, nat_le, FitsSigned}
use Rattle.std.specs.List.{list_all}
use Rattle.std.specs.Option.{option_map_or}
use Rattle.std.specs.Int.{w64}
use Rattle.std.proofs.Common.{subst, arith}
use Rattle.std.proofs.Math.Bool.{Bool-set}
use Rattle.std.proofs.Math.Logic.{∥∥₁_elim}
use Rattle.std.proofs.lemmas.Bool.{false≢true, and_parts, and_from, ltb-true}
use Rattle.std.proofs.lemmas.Bool.Decides.{nat_tests}
use Rattle.std.proofs.lemmas.Int.{ints}
use Rattle.agg_model.specs.FieldKinds.{fits_below}
use Rattle.agg_model.proofs.InstantBits.{instant_in_64}
use Rattle.agg_model.specs.declared.mapping.Field.{Field}
use Rattle.agg_model.specs.declared.mapping.FieldKind.{FieldKind}
use Rattle.agg_model.specs.declared.mapping.FieldKind.TheVariants.{Long, Integer, Short, Byte, Keyword, Boolean, Date}
use Rattle.agg_model.specs.declared.mapping.Mapping.{Mapping}
use Rattle.agg_model.specs.declared.row.Document.{Document}
use Rattle.agg_model.specs.declared.row.FieldValues.{FieldValues}
use Rattle.agg_model.specs.declared.row.Scalar.{Scalar}
use Rattle.agg_model.specs.declared.row.Scalar.TheVariants.{Whole}
use Rattle.agg_evaluation.specs.DocumentFits.{is_value, is_own, is_number_of_values, ascend, field_fits, fields_fit}
use Rattle.agg_evaluation.specs.PlacedFits.{placed_fits}
use Rattle.agg_evaluation.specs.Rows.{values_of, row_of, no_row, rows_of_documents}
use Rattle.agg_evaluation.proofs.RowsFit.{rows_fit_placed}
use Rattle.shard_columns.specs.Built.{IsBuiltFrom, IsShard}
use Rattle.shard_columns.specs.Columns.{Columns}
use Rattle.shard_columns.proofs.Givens.{all_at}
use Rattle.column_query.specs.Numbers.{IsHeld}
use Rattle.column_query.proofs.Contents.{all_members}
use Rattle.column_query.proofs.Members.{In, In-contains}

-- a narrower number is a wider one
wider : (half wide : ℕ) (z : ℤ) → half ≤ wide → fits_below half z ≡ true → fits_below wide z ≡ true
wider half wide (pos n) low h =
    let parts = and_parts (int_le (neg_ℤ (pos half)) (pos n)) (int_lt (pos n) (pos half)) h in
    let high = parts.1 in
    and_from _ _ (let e : int_le (neg_ℤ (pos wide)) (pos n) ≡ true = grind (arith, nat_tests, ints) in e) (let e : int_lt (pos n) (pos wide) ≡ true = grind (arith, nat_tests, ints, high, low) in e)
wider half wide (negsuc n) low h =
    let parts = and_parts (int_le (neg_ℤ (pos half)) (negsuc n)) (int_lt (negsuc n) (pos half)) h in
    let least = parts.0 in
    and_from _ _ (let e : int_le (neg_ℤ (pos wide)) (negsuc n) ≡ true = grind (arith, nat_tests, ints, least, low) in e) refl

value_fits : (k : FieldKind) (z : ℤ) → is_value k (Whole z) ≡ true → fits_below (2 ^ 63) z ≡ true
value_fits Long z h = h
value_fits Integer z h = wider (2 ^ 31) (2 ^ 63) z (omega arith) h
value_fits Short z h = wider (2 ^ 15) (2 ^ 63) z (omega arith) h
value_fits Byte z h = wider (2 ^ 7) (2 ^ 63) z (omega arith) h
value_fits Keyword z h = absurd (false≢true h)
value_fits Boolean z h = absurd (false≢true h)
value_fits Date z h = instant_in_64 z h

module _ (m : Mapping) (z : ℤ) where
  own_fits : (context field : ℕ) (vs : List Scalar) → is_own m context field vs ≡ true → In (Whole z) vs → fits_below (2 ^ 63) z ≡ true
  own_fits context field vs h is =
      elim (slice_get m.fields field) as (λ o. option_map_or (λ (f : Field). (f.context == context) && list_all (is_value f.kind) vs) o false ≡ true → fits_below (2 ^ 63) z ≡ true) [
        | None ↦ λ e. absurd (false≢true e)
        | Some f ↦ λ e. value_fits f.kind z (all_members (is_value f.kind) vs (Whole z) (and_parts (f.context == context) (list_all (is_value f.kind) vs) e).1 is)
      ] h

  found_fits : (context least field : ℕ) (fs : List FieldValues) → fields_fit m context least fs ≡ true
      → In (Whole z) (unwrap_or (option_map (λ (v : FieldValues). v.values) (find (λ (v : FieldValues). v.field == field) fs)) []) → fits_below (2 ^ 63) z ≡ true
  found_fits context least field [] h is = absurd is
  found_fits context least field (f ∷ fs) h is =
      let first = (and_parts (nat_le least f.field) (field_fits m context f && fields_fit m context (f.field + 1) fs) h).1 in
      let parts = and_parts (field_fits m context f) (fields_fit m context (f.field + 1) fs) first in
      let own = (and_parts (is_own m context f.field f.values) (is_number_of_values (length f.values) && ascend f.values) parts.0).0 in
      elim (f.field == field) as (λ b. In (Whole z) (unwrap_or (option_map (λ (v : FieldValues). v.values) (cond b (Some f) (find (λ (v : FieldValues). v.field == field) fs))) []) → fits_below (2 ^ 63) z ≡ true) [
        | true ↦ own_fits context f.field f.values own
        | false ↦ found_fits context (f.field + 1) field fs parts.1
      ] is

  no_row_fits : placed_fits m no_row ≡ true
  no_row_fits = and_from (nat_le 0 (length m.nested)) _ (grind (arith, nat_tests)) refl

  of_documents : (shard : Columns) (field n : ℕ) (documents : List Document) → IsBuiltFrom m documents shard → In (Whole z) (values_of field (row_of shard.rows n)) → fits_below (2 ^ 63) z ≡ true
  of_documents shard field n documents built is =
      let placed = all_at (placed_fits m) (rows_of_documents documents) no_row no_row_fits (rows_fit_placed m documents built.fit) n in
      let row = row_of (rows_of_documents documents) n in
      let fit = and_parts (nat_le row.context (length m.nested)) (fields_fit m row.context 0 row.values) placed in
      found_fits row.context 0 field row.values fit.1 (subst (λ (s : Columns). In (Whole z) (values_of field (row_of s.rows n))) built.columns_are is)

above_least : (half n : ℕ) → int_le (neg_ℤ (pos half)) (negsuc n) ≡ true → suc n ≤ half
above_least half n least = grind (arith, nat_tests, ints, least)

in_64 : (z : ℤ) → fits_below (2 ^ 63) z ≡ true → FitsSigned w64 z
in_64 (pos n) h = record { sfits = ltb-true n (2 ^ 63) (and_parts (int_le (neg_ℤ (pos (2 ^ 63))) (pos n)) (int_lt (pos n) (pos (2 ^ 63))) h).1 }
in_64 (negsuc n) h = record { sfits = (let low = above_least (2 ^ 63) n (and_parts (int_le (neg_ℤ (pos (2 ^ 63))) (negsuc n)) (int_lt (negsuc n) (pos (2 ^ 63))) h).0 in omega (arith, low)) }

pub held-fits : (shard : Columns) → IsShard shard → (field : ℕ) (z : ℤ) → IsHeld shard.rows field (Whole z) → FitsSigned w64 z
held-fits shard built field z held =
    let is = In-contains (values_of field (row_of shard.rows held.0)) (Whole z) held.1 in
    in_64 z (∥∥₁_elim built (Bool-set _ _) (λ m. ∥∥₁_elim m.1 (Bool-set _ _) (λ of. of_documents m.0 z shard field held.0 of.0 of.1 is)))
