-- The numbers of metrics: a count is at most the weight of the rows, and a sum of values of 64 bits at most so many times 2^63.
use Rattle.std.specs.Prelude.{◌≡◌, refl, ℕ, ℤ, ◌+◌, ◌*◌, ◌^◌, ◌==◌, ◌≤◌, Bool, true, false, cond, ◌&&◌, List, [], ◌∷◌, filter_map, flat_map, find, length, sum_by, slice_get, Option, Some, None, option_map, unwrap_or, nat_le}
use Rattle.std.specs.List.{list_all}
use Rattle.std.specs.Option.{option_map_or}
use Rattle.std.proofs.Common.{◌∙◌, ap, subst, arith}
use Rattle.std.proofs.lemmas.Bool.{eqb-true, false≢true, and_parts, and_from}
use Rattle.std.proofs.lemmas.List.Folds.{list_all-append}
use Rattle.std.proofs.lemmas.List.Sums.{sum_by-cons}
use Rattle.date_spec.specs.Instants.{is_in_range}
use Rattle.agg_model.specs.FieldKinds.{is_date_kind, fits_below}
use Rattle.agg_model.proofs.InstantBits.{instant_in_64}
use Rattle.agg_model.specs.declared.mapping.Field.{Field}
use Rattle.agg_model.specs.declared.mapping.FieldKind.{FieldKind}
use Rattle.agg_model.specs.declared.mapping.FieldKind.TheVariants.{Long, Integer, Short, Byte, Keyword, Boolean, Date}
use Rattle.agg_model.specs.declared.mapping.Mapping.{Mapping}
use Rattle.agg_model.specs.declared.row.FieldValues.{FieldValues}
use Rattle.agg_model.specs.declared.row.Scalar.{Scalar}
use Rattle.agg_model.specs.declared.row.Scalar.TheVariants.{Whole, Word, Flag}
use Rattle.agg_evaluation.specs.Counted.{IsCounted}
use Rattle.agg_evaluation.specs.DocumentFits.{is_value, is_own, is_number_of_values, ascend, field_fits, fields_fit}
use Rattle.agg_evaluation.specs.Keys.{or_missing, values_or}
use Rattle.agg_evaluation.specs.PlacedFits.{placed_fits, rows_placed}
use Rattle.agg_evaluation.specs.QueryFits.{field_is}
use Rattle.agg_evaluation.specs.Rows.{PlacedRow, values_of}
use Rattle.agg_evaluation.specs.RowsWeight.{row_weight, rows_weight}
use Rattle.agg_evaluation.specs.SearchFits.{is_stored, is_missing, is_date_field}
use Rattle.agg_evaluation.specs.Shard.{integer_of, int_sum, metric_of}
use Rattle.list_laws.proofs.Lists.{length-flat_map}
use Rattle.list_laws.proofs.Sums.{sum_by-at_most}
use Rattle.fitting_laws.proofs.Counting.{values_or_light}
use Rattle.fitting_laws.proofs.Sizes.{size, size_plus, size_fits, size_wider}

-- a value that is no number, or one that passes
abbrev pub is_number : (ℤ → Bool) → Scalar → Bool
is_number test (Whole z) = test z
is_number test (Word w) = true
is_number test (Flag b) = true

-- a value that is no number, or one of 64 bits
abbrev pub is_64 : Scalar → Bool
is_64 = is_number (fits_below (2 ^ 63))

value_64 : (k : FieldKind) (v : Scalar) → true ≡ true → is_value k v ≡ true → is_64 v ≡ true
value_64 k (Word w) t h = refl
value_64 k (Flag b) t h = refl
value_64 Long (Whole z) t h = h
value_64 Integer (Whole z) t h = size_wider (2 ^ 31) (2 ^ 63) z (omega arith) h
value_64 Short (Whole z) t h = size_wider (2 ^ 15) (2 ^ 63) z (omega arith) h
value_64 Byte (Whole z) t h = size_wider (2 ^ 7) (2 ^ 63) z (omega arith) h
value_64 Keyword (Whole z) t h = absurd (false≢true h)
value_64 Boolean (Whole z) t h = absurd (false≢true h)
value_64 Date (Whole z) t h = instant_in_64 z h

stored_64 : (k : FieldKind) (v : Scalar) → true ≡ true → is_stored k v ≡ true → is_64 v ≡ true
stored_64 k (Word w) t h = refl
stored_64 k (Flag b) t h = refl
stored_64 Long (Whole z) t h = h
stored_64 Integer (Whole z) t h = h
stored_64 Short (Whole z) t h = h
stored_64 Byte (Whole z) t h = h
stored_64 Keyword (Whole z) t h = absurd (false≢true h)
stored_64 Boolean (Whole z) t h = absurd (false≢true h)
stored_64 Date (Whole z) t h = instant_in_64 z h

value_dated : (k : FieldKind) (v : Scalar) → is_date_kind k ≡ true → is_value k v ≡ true → is_number is_in_range v ≡ true
value_dated k (Word w) t h = refl
value_dated k (Flag b) t h = refl
value_dated Long (Whole z) t h = absurd (false≢true t)
value_dated Integer (Whole z) t h = absurd (false≢true t)
value_dated Short (Whole z) t h = absurd (false≢true t)
value_dated Byte (Whole z) t h = absurd (false≢true t)
value_dated Keyword (Whole z) t h = absurd (false≢true t)
value_dated Boolean (Whole z) t h = absurd (false≢true t)
value_dated Date (Whole z) t h = h

stored_dated : (k : FieldKind) (v : Scalar) → is_date_kind k ≡ true → is_stored k v ≡ true → is_number is_in_range v ≡ true
stored_dated k (Word w) t h = refl
stored_dated k (Flag b) t h = refl
stored_dated Long (Whole z) t h = absurd (false≢true t)
stored_dated Integer (Whole z) t h = absurd (false≢true t)
stored_dated Short (Whole z) t h = absurd (false≢true t)
stored_dated Byte (Whole z) t h = absurd (false≢true t)
stored_dated Keyword (Whole z) t h = absurd (false≢true t)
stored_dated Boolean (Whole z) t h = absurd (false≢true t)
stored_dated Date (Whole z) t h = h

abbrev pub all_64 : List Scalar → Bool
all_64 vs = list_all is_64 vs

-- What holds of the values of fields of some kinds, and of those that stand for them, holds of the values of rows.
module _ (kinds : FieldKind → Bool) (p : Scalar → Bool) (valued : (k : FieldKind) (v : Scalar) → kinds k ≡ true → is_value k v ≡ true → p v ≡ true)
    (kept : (k : FieldKind) (v : Scalar) → kinds k ≡ true → is_stored k v ≡ true → p v ≡ true) (m : Mapping) where
  all_valued : (k : FieldKind) (vs : List Scalar) → kinds k ≡ true → list_all (is_value k) vs ≡ true → list_all p vs ≡ true
  all_valued k [] t h = refl
  all_valued k (v ∷ vs) t h = let parts = and_parts (is_value k v) (list_all (is_value k) vs) h in and_from _ _ (valued k v t parts.0) (all_valued k vs t parts.1)

  own_valued : (context field : ℕ) (vs : List Scalar) → field_is m kinds field ≡ true → is_own m context field vs ≡ true → list_all p vs ≡ true
  own_valued context field vs t h =
      elim (slice_get m.fields field) as (λ o. option_map_or (λ (f : Field). kinds f.kind) o false ≡ true
      → option_map_or (λ (f : Field). (f.context == context) && list_all (is_value f.kind) vs) o false ≡ true → list_all p vs ≡ true) [
        | None ↦ λ t e. absurd (false≢true e)
        | Some f ↦ λ t e. all_valued f.kind vs t (and_parts (f.context == context) (list_all (is_value f.kind) vs) e).1
      ] t h

  module _ (field : ℕ) (of_kind : field_is m kinds field ≡ true) where
    found_valued : (context least : ℕ) (fs : List FieldValues) → fields_fit m context least fs ≡ true
        → list_all p (unwrap_or (option_map (λ (v : FieldValues). v.values) (find (λ (v : FieldValues). v.field == field) fs)) []) ≡ true
    found_valued context least [] h = refl
    found_valued context least (f ∷ fs) h =
        let first = (and_parts (nat_le least f.field) (field_fits m context f && fields_fit m context (f.field + 1) fs) h).1 in
        let parts = and_parts (field_fits m context f) (fields_fit m context (f.field + 1) fs) first in
        let own = (and_parts (is_own m context f.field f.values) (is_number_of_values (length f.values) && ascend f.values) parts.0).0 in
        elim (f.field == field) as (λ b. (f.field == field) ≡ b
        → list_all p (unwrap_or (option_map (λ (v : FieldValues). v.values) (cond b (Some f) (find (λ (v : FieldValues). v.field == field) fs))) []) ≡ true) [
          | true ↦ λ e. own_valued context field f.values of_kind (subst (λ n. is_own m context n f.values ≡ true) (eqb-true f.field field e) own)
          | false ↦ λ e. found_valued context (f.field + 1) fs parts.1
        ] refl

    -- the values of a placed row, and what stands for them
    row_valued : (missing : Option Scalar) → field_is m (λ k. kinds k && is_missing k missing) field ≡ true → (row : PlacedRow) → placed_fits m row ≡ true
        → list_all p (values_or field missing row) ≡ true
    row_valued missing h row fits =
        or_valued (values_of field row) (found_valued row.context 0 row.values (and_parts (nat_le row.context (length m.nested)) (fields_fit m row.context 0 row.values) fits).1)
      where
        stands : (missing : Option Scalar) (o : Option Field) → option_map_or (λ (f : Field). kinds f.kind && is_missing f.kind missing) o false ≡ true
            → list_all p (or_missing missing []) ≡ true
        stands None o e = refl
        stands (Some s) None e = absurd (false≢true e)
        stands (Some s) (Some f) e = let parts = and_parts (kinds f.kind) (is_stored f.kind s) e in and_from _ _ (kept f.kind s parts.0 parts.1) refl

        or_valued : (vs : List Scalar) → list_all p vs ≡ true → list_all p (or_missing missing vs) ≡ true
        or_valued [] e = stands missing (slice_get m.fields field) h
        or_valued (v ∷ vs) e = e

  -- a field with such a value for rows without one is of such a kind
  kind_of : (field : ℕ) (missing : Option Scalar) → field_is m (λ k. kinds k && is_missing k missing) field ≡ true → field_is m kinds field ≡ true
  kind_of field missing h =
      elim (slice_get m.fields field) as (λ o. option_map_or (λ (f : Field). kinds f.kind && is_missing f.kind missing) o false ≡ true → option_map_or (λ (f : Field). kinds f.kind) o false ≡ true) [
        | None ↦ λ e. e
        | Some f ↦ λ e. (and_parts (kinds f.kind) (is_missing f.kind missing) e).0
      ] h

  rows_valued : (field : ℕ) (missing : Option Scalar) → field_is m (λ k. kinds k && is_missing k missing) field ≡ true → (rows : List PlacedRow) → list_all (placed_fits m) rows ≡ true
      → list_all (λ (r : PlacedRow). list_all p (values_or field missing r)) rows ≡ true
  rows_valued field missing h [] e = refl
  rows_valued field missing h (r ∷ rows) e =
      let parts = and_parts (placed_fits m r) (list_all (placed_fits m) rows) e in
      and_from _ _ (row_valued field (kind_of field missing h) missing h r parts.0) (rows_valued field missing h rows parts.1)

-- one where a test fails
abbrev pub missing_one : Bool → ℕ
missing_one true = 0
missing_one false = 1

module _ {A : Type 0} (p : A → Bool) where
  -- a list fails nowhere
  pub no_miss : (xs : List A) → list_all p xs ≡ true → sum_by (λ (x : A). missing_one (p x)) xs ≡ 0
  no_miss [] h = refl
  no_miss (x ∷ xs) h =
      let parts = and_parts (p x) (list_all p xs) h in
      let here : missing_one (p x) ≡ 0 = ap missing_one parts.0 in
      let cons = sum_by-cons (λ (x : A). missing_one (p x)) x xs in
      let rest = no_miss xs parts.1 in
      omega (arith, here, cons, rest)

  -- and a list that fails nowhere passes
  pub none_left : (xs : List A) → sum_by (λ (x : A). missing_one (p x)) xs ≤ 0 → list_all p xs ≡ true
  none_left [] h = refl
  none_left (x ∷ xs) h =
      let cons = sum_by-cons (λ (x : A). missing_one (p x)) x xs in
      and_from _ _ (zero_is (p x) (omega (arith, cons, h))) (none_left xs (omega (arith, cons, h)))
    where
      zero_is : (b : Bool) → missing_one b ≤ 0 → b ≡ true
      zero_is true h = refl
      zero_is false h = absurd (omega (arith, h))

-- what holds of each row of a shard holds of counted ones
pub counted_hold : (p : PlacedRow → Bool) (all : List PlacedRow) (context : ℕ) (rows : List PlacedRow) → list_all p all ≡ true → IsCounted all context rows → list_all p rows ≡ true
counted_hold p all context rows h counted = none_left p rows (let less = counted.within (λ r. missing_one (p r)) in let none = no_miss p all h in omega (arith, less, none))

-- the size of the sum of values
sum_64 : (vs : List Scalar) → all_64 vs ≡ true → size (int_sum (filter_map integer_of vs)) ≤ length vs * 2 ^ 63
sum_64 [] h = omega arith
sum_64 (Whole z ∷ vs) h =
    let parts = and_parts (fits_below (2 ^ 63) z) (all_64 vs) h in
    let one = size_fits (2 ^ 63) z parts.0 in
    let both = size_plus z (int_sum (filter_map integer_of vs)) in
    let rest = sum_64 vs parts.1 in
    omega (arith, one, both, rest)
sum_64 (Word w ∷ vs) h = let rest = sum_64 vs h in omega (arith, rest)
sum_64 (Flag b ∷ vs) h = let rest = sum_64 vs h in omega (arith, rest)

module _ (all : List PlacedRow) (field : ℕ) (missing : Option Scalar) where
  -- there are no more values than the shard weighs
  pub counts_light : (context : ℕ) (rows : List PlacedRow) → IsCounted all context rows → length (flat_map (values_or field missing) rows) ≤ rows_weight all
  counts_light context rows counted =
      let a = length-flat_map (values_or field missing) rows in
      let b = sum_by-at_most (λ (r : PlacedRow). length (values_or field missing r)) row_weight rows (values_or_light field missing) in
      let c = counted.within row_weight in
      omega (arith, a, b, c)

  all_rows_64 : (rows : List PlacedRow) → list_all (λ (r : PlacedRow). all_64 (values_or field missing r)) rows ≡ true → all_64 (flat_map (values_or field missing) rows) ≡ true
  all_rows_64 [] h = refl
  all_rows_64 (r ∷ rows) h =
      let parts = and_parts (all_64 (values_or field missing r)) (list_all (λ (r : PlacedRow). all_64 (values_or field missing r)) rows) h in
      list_all-append is_64 (values_or field missing r) (flat_map (values_or field missing) rows) ∙ and_from _ _ parts.0 (all_rows_64 rows parts.1)

  -- the values of counted rows at a field of dates are instants in their range
  pub counted_dated : (m : Mapping) → is_date_field m field missing ≡ true → rows_placed m all ≡ true → (context : ℕ) (rows : List PlacedRow) → IsCounted all context rows
      → list_all (λ (r : PlacedRow). list_all (is_number is_in_range) (values_or field missing r)) rows ≡ true
  counted_dated m h placed context rows counted =
      rows_valued is_date_kind (is_number is_in_range) value_dated stored_dated m field missing h rows (counted_hold (placed_fits m) all context rows placed counted)

  module _ (m : Mapping) (h : field_is m (λ k. is_missing k missing) field ≡ true) (placed : rows_placed m all ≡ true) where
    pub counted_64 : (context : ℕ) (rows : List PlacedRow) → IsCounted all context rows → list_all (λ (r : PlacedRow). all_64 (values_or field missing r)) rows ≡ true
    counted_64 context rows counted =
        rows_valued (λ k. true) is_64 value_64 stored_64 m field missing h rows (counted_hold (placed_fits m) all context rows placed counted)

    -- and their sum is no more than so many times 2^63
    pub sums_light : (context : ℕ) (rows : List PlacedRow) → IsCounted all context rows → size (metric_of (flat_map (values_or field missing) rows)).sum ≤ rows_weight all * 2 ^ 63
    sums_light context rows counted =
        let count = counts_light context rows counted in
        let sum = sum_64 (flat_map (values_or field missing) rows) (all_rows_64 rows (counted_64 context rows counted)) in
        omega (arith, count, sum)
