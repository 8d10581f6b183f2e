-- The values of laid rows as columns.
use Rattle.std.specs.Prelude.{◌≡◌, ℕ, ◌+◌, ◌<◌, ◌≤◌, ◌^◌, true, List, [], ◌∷◌, map, length, slice_get, Some, sum_by}
use Rattle.std.specs.List.{list_all}
use Rattle.std.specs.List.Sorted.{IsStrictlyIncreasing}
use Rattle.agg_model.specs.declared.mapping.FieldKind.{FieldKind}
use Rattle.agg_model.specs.declared.row.FieldValues.{FieldValues}
use Rattle.agg_model.specs.FieldKinds.{is_of_kind}
use Rattle.shard_columns.specs.declared.layout.Laid.{Laid}
use Rattle.shard_columns.specs.declared.values.Drafts.{Drafts}
use Rattle.shard_columns.specs.declared.columns.Column.{Column}
use Rattle.shard_columns.specs.declared.homes.Homes.{Homes}
use Rattle.shard_columns.specs.declared.words.WordNumbers.{WordNumbers}
use Rattle.shard_columns.specs.Columnar.{IsColumn}
use Rattle.shard_columns.specs.Layout.{values_of_laid}
use Rattle.shard_columns.specs.Storing.{HasKinds, AreBounded, AreShaped}
use Rattle.shard_columns.specs.Values.{Words, Reader, by_words, row_values, drafted, found_values, is_typed, total_count}
use Rattle.shard_columns.specs.Words.{Shows, AllFieldsBelow}

-- fields that ascend from this number on, each with values of its kind
unfoldable pub AreSound : List FieldKind → ℕ → List FieldValues → Type 0
AreSound kinds least [] = Unit {0}
AreSound kinds least (v ∷ vs) =
    (least ≤ v.field) × ((0 < length v.values) × (((k : FieldKind) → slice_get kinds v.field ≡ Some k → list_all (is_of_kind k) v.values ≡ true) × AreSound kinds (v.field + 1) vs))

-- The fields of each row are among the mapping's, and ascend; each has values, all of its kind. Rows and values are few.
pub record AreStorable (kinds : List FieldKind) (rows : List Laid) : Type 0 where
  pub below : AllFieldsBelow (length kinds) rows
  pub rising : (n : ℕ) (l : Laid) → slice_get rows n ≡ Some l → IsStrictlyIncreasing (map (λ v. v.field) l.values.now)
  pub sound : (n : ℕ) (l : Laid) → slice_get rows n ≡ Some l → AreSound kinds 0 l.values.now
  pub few_values : sum_by total_count (values_of_laid rows) < 2 ^ 32
  pub few_rows : length rows < 2 ^ 32

-- the drafts of these rows, where each number of a word is read as the word
pub record AreDrafts (kinds : List FieldKind) (numbers : WordNumbers) (rows : List Laid) (drafts : Drafts) : Type 0 where
  pub sizes : length drafts.columns.items ≡ length kinds
  pub typed : HasKinds kinds drafts
  pub shaped : AreShaped (length rows) drafts
  pub bounded : AreBounded numbers drafts
  pub counted : drafts.count ≡ sum_by total_count (values_of_laid rows)
  pub values : (show : Reader) → Shows numbers show → (f n : ℕ) (l : Laid) → f < length kinds → slice_get rows n ≡ Some l → drafted show drafts.columns.items f n ≡ found_values f l.values.now

-- each row is read from the columns, where `words` has the words of each field
abbrev pub AreStored : Homes → List Laid → List Words → List Column → Type 0
AreStored homes rows words columns = row_values homes (by_words words) columns (length rows) ≡ values_of_laid rows

-- a column for each field, of its type
pub record AreColumns (homes : Homes) (kinds : List FieldKind) (columns : List Column) : Type 0 where
  pub sizes : length columns ≡ length kinds
  pub sound : (f : ℕ) (c : Column) → slice_get columns f ≡ Some c → IsColumn homes c
  pub typed : (f : ℕ) (k : FieldKind) (c : Column) → slice_get kinds f ≡ Some k → slice_get columns f ≡ Some c → is_typed k c.typed ≡ true
