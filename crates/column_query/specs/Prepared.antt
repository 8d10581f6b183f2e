-- What a prepared query says of a row.
use Rattle.std.specs.Prelude.{◌≡◌, ℕ, ◌+◌, Bool, true, not, ◌&&◌, ◌||◌, Option, Vec, List, [], ◌∷◌, length, filter, map, nat_le, nat_lt, ℤ}
use Rattle.std.specs.List.{list_any, list_all}
use Rattle.std.specs.Ordering.{nat_cmp, is_eq}
use Rattle.std.specs.Cmp.Lexicographic.{slice_cmp}
use Rattle.std.specs.Str.{bytes_eq}
use Rattle.std.specs.declared.alloc.Global.{Global}
use Rattle.agg_model.specs.declared.query.Query.{Query}
use Rattle.agg_model.specs.declared.query.Probe.{Probe}
use Rattle.agg_model.specs.declared.query.RangeTest.{RangeTest}
use Rattle.agg_evaluation.specs.KeyOrder.{key_eq}
use Rattle.agg_model.specs.ValueKeys.{scalar_key, probe_key}
use Rattle.agg_evaluation.specs.Matching.{passes, matches}
use Rattle.agg_evaluation.specs.Rows.{PlacedRow, beneath, has_value, row_of}
use Rattle.shard_columns.specs.Columns.{Columns}
use Rattle.shard_columns.specs.Dictionary.{words_of}
use Rattle.agg_model.specs.declared.row.Scalar.{Scalar}
use Rattle.column_query.specs.Numbers.{number_of, numbers_of, is_number, is_among, within, IsHeld}
use Rattle.column_query.specs.NumberSets.{has_number}
use Rattle.column_query.specs.declared.bounds.Bound.{Bound}
use Rattle.column_query.specs.declared.prepared.NumberTest.{NumberTest}
use Rattle.column_query.specs.declared.prepared.NumberTest.TheVariants.{Is, OneOf, Within}
use Rattle.column_query.specs.declared.prepared.Prepared.{Prepared, Row_of-Prepared, end_of-Prepared, more_of-Prepared}
use Rattle.column_query.specs.declared.prepared.Prepared.TheOpen.{Prepared-F}
use Rattle.column_query.specs.declared.prepared.Prepared.TheVariants as prepared

abbrev pub within_all : List Bound → ℤ → Bool
within_all bounds x = list_all (λ bound. within bound x) bounds

abbrev pub passes_number : NumberTest → ℤ → Bool
passes_number (Is number) x = is_number number x
passes_number (OneOf numbers) x = has_number numbers x
passes_number (Within bounds) x = within_all bounds.items x

module _ {A : Type 0} (step : Prepared-F A → A) where
  abbrev mutual
    pub fold_prepared : Prepared → A
    fold_prepared prepared.All = step Prepared-F.All
    fold_prepared (prepared.Values field test) = step (Prepared-F.Values field test)
    fold_prepared (prepared.Exists field) = step (Prepared-F.Exists field)
    fold_prepared (prepared.Ids ids) = step (Prepared-F.Ids ids)
    fold_prepared (prepared.Bool' l must m must_not n should minimum) = step (Prepared-F.Bool (fold_all must) (fold_all must_not) (fold_all should) minimum)
    fold_prepared (prepared.Nested' path one query) = step (Prepared-F.Nested path (fold_only query))

    pub fold_all : {n : _} → Row_of-Prepared n → List A
    fold_all end_of-Prepared = []
    fold_all (more_of-Prepared p rest) = fold_prepared p ∷ fold_all rest

    pub fold_only : Row_of-Prepared 1 → A
    fold_only (more_of-Prepared p rest) = fold_prepared p

abbrev pub says_at : List PlacedRow → Prepared-F (PlacedRow → Bool) → PlacedRow → Bool
says_at all Prepared-F.All row = true
says_at all (Prepared-F.Values field test) row = list_any (passes_number test) (numbers_of all field row)
says_at all (Prepared-F.Exists field) row = has_value field row
says_at all (Prepared-F.Ids ids) row = list_any (λ id. is_eq (slice_cmp nat_cmp row.id id.items)) ids.keys
says_at all (Prepared-F.Bool must must_not should minimum) row =
    list_all (λ p. p row) must && not (list_any (λ p. p row) must_not) && nat_le minimum (length (filter (λ p. p row) should))
says_at all (Prepared-F.Nested path query) row = list_any query (beneath all (path + 1) row)

abbrev pub says : List PlacedRow → Prepared → PlacedRow → Bool
says all = fold_prepared (says_at all)

abbrev pub reads_below_at : ℕ → Prepared-F Bool → Bool
reads_below_at n Prepared-F.All = true
reads_below_at n (Prepared-F.Values field test) = nat_lt field n
reads_below_at n (Prepared-F.Exists field) = true
reads_below_at n (Prepared-F.Ids ids) = true
reads_below_at n (Prepared-F.Bool must must_not should minimum) = list_all (λ b. b) must && list_all (λ b. b) must_not && list_all (λ b. b) should
reads_below_at n (Prepared-F.Nested path query) = query

abbrev pub reads_below : ℕ → Prepared → Bool
reads_below n = fold_prepared (reads_below_at n)

-- the numbers stand for the probes among the values of the field
pub record StandForAll (rows : List PlacedRow) (field : ℕ) (probes : List Probe) (numbers : List ℤ) : Type 0 where
  pub same : (v : Scalar) → IsHeld rows field v → is_among numbers (number_of (words_of field rows) v) ≡ list_any (λ probe. key_eq (scalar_key v) (probe_key probe)) probes

-- the test stands for a list of values of the field
pub record TestsFor (rows : List PlacedRow) (field : ℕ) (probes : List Probe) (test : NumberTest) : Type 0 where
  pub same : (v : Scalar) → IsHeld rows field v → passes_number test (number_of (words_of field rows) v) ≡ list_any (λ probe. key_eq (scalar_key v) (probe_key probe)) probes

-- the number, if there is one, is put among the others
pub record AddsNumber (old : List ℤ) (number : Option ℤ) (new : List ℤ) : Type 0 where
  pub same : (x : ℤ) → is_among new x ≡ (is_number number x || is_among old x)

pub record HasIds (values : List (List ℕ)) (ids : List (Vec ℕ Global)) : Type 0 where
  pub same : (id : List ℕ) → list_any (λ one. is_eq (slice_cmp nat_cmp id one.items)) ids ≡ list_any (bytes_eq id) values

pub record BoundAsAll (rows : List PlacedRow) (field : ℕ) (tests : List RangeTest) (bounds : List Bound) : Type 0 where
  pub same : (v : Scalar) → IsHeld rows field v → within_all bounds (number_of (words_of field rows) v) ≡ list_all (λ test. passes test v) tests

-- the prepared query says of each row of the shard whether the query matches it, and reads fields of the shard alone
pub record IsReady (shard : Columns) (query : Query) (p : Prepared) : Type 0 where
  pub fields : reads_below (length shard.kinds) p ≡ true
  pub same : (n : ℕ) → says shard.rows p (row_of shard.rows n) ≡ matches shard.rows query (row_of shard.rows n)

pub record AreReady (shard : Columns) (queries : List Query) (ps : List Prepared) : Type 0 where
  pub fields : list_all (reads_below (length shard.kinds)) ps ≡ true
  pub same : (n : ℕ) → map (λ p. says shard.rows p (row_of shard.rows n)) ps ≡ map (λ q. matches shard.rows q (row_of shard.rows n)) queries
