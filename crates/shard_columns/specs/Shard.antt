-- What the fields of a shard stand for, and what is always so of them.
use Rattle.std.specs.Prelude.{◌≡◌, ℕ, ◌+◌, ◌<◌, ◌≤◌, ◌%◌, List, [], length, map, sum, slice_index_or, slice_get, Some, true}
use Rattle.std.specs.List.{zip}
use Rattle.agg_model.specs.declared.limits.TheConstants.{MAX_PATHS, WEIGHT_LIMIT}
use Rattle.agg_evaluation.specs.Rows.{PlacedRow, row_of}
use Rattle.shard_columns.specs.declared.shard.Shard.TheInside.{Inside}
use Rattle.shard_columns.specs.Built.{IsShard}
use Rattle.shard_columns.specs.Columns.{Columns}
use Rattle.shard_columns.specs.Contexts.{AreNumbered, AreEnclosed}
use Rattle.shard_columns.specs.Counts.{most_values}
use Rattle.shard_columns.specs.Dictionary.{words_of, longest_word}
use Rattle.agg_evaluation.specs.ColumnBytes.{value_count}
use Rattle.shard_columns.specs.Given.{KindsHold}
use Rattle.shard_columns.specs.Homes.{home_count}
use Rattle.shard_columns.specs.Layout.{placed}
use Rattle.shard_columns.specs.Values.{row_values, by_words, is_typed}
use Rattle.shard_columns.specs.Columnar.{IsColumn}
use Rattle.shard_columns.specs.declared.columns.Column.{Column}
use Rattle.agg_model.specs.declared.mapping.FieldKind.{FieldKind}
use Rattle.agg_evaluation.specs.RowsWeight.{rows_weight}

abbrev pub placed_rows : Inside → List PlacedRow
placed_rows s = placed s.ids [] (zip s.rows (row_values s.homes (by_words s.words.items) s.columns.items (length s.rows)))

abbrev pub columns_of : Inside → Columns
columns_of s = record { kinds = s.kinds.items; contexts = s.contexts.items; parents = s.parents.items; rows = placed_rows s }

pub record IsSound (s : Inside) : Type 0 where
  pub columns : (f : ℕ) (c : Column) → slice_get s.columns.items f ≡ Some c → IsColumn s.homes c
  pub typed : (f : ℕ) (k : FieldKind) (c : Column) → slice_get s.kinds.items f ≡ Some k → slice_get s.columns.items f ≡ Some c → is_typed k c.typed ≡ true
  pub homed : home_count s.homes ≡ length s.rows
  pub column_sizes : length s.columns.items ≡ length s.kinds.items
  pub numbered : AreNumbered (length s.parents.items + 1) s.rows s.numbers.items
  pub few_paths : length s.parents.items ≤ MAX_PATHS
  pub contexts : (n : ℕ) → (row_of (placed_rows s) n).context ≤ length s.parents.items
  pub enclosed : AreEnclosed (placed_rows s) s.ends.items
  pub odd : (n : ℕ) → n < length (placed_rows s) → length (row_of (placed_rows s) n).place % 2 ≡ 1
  pub dictionaries : (field : ℕ) → slice_index_or s.words.items field [] ≡ words_of field (placed_rows s)
  pub sizes : length s.words.items ≡ length s.kinds.items
  pub longest : (field : ℕ) → slice_index_or s.longest.items field 0 ≡ longest_word field (placed_rows s)
  pub most : (field : ℕ) → slice_index_or s.most.items field 0 ≡ most_values field (placed_rows s)
  pub few_fields : length s.kinds.items ≤ MAX_PATHS
  pub kinds : KindsHold s.kinds.items (placed_rows s)
  pub counted : s.values ≡ sum (map value_count (placed_rows s))
  pub light : rows_weight (placed_rows s) < WEIGHT_LIMIT
  pub built : IsShard (columns_of s)
