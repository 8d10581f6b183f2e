-- An index: its name, its mapping, and the rows of each shard ('Index modules', 'Mapping').
use Rattle.std.specs.Prelude.{ℕ, List, [], map, length, slice_index_or}
use Rattle.std.specs.List.{range_with_len}
use Rattle.agg_model.specs.declared.mapping.FieldKind.{FieldKind}
use Rattle.agg_model.specs.declared.mapping.Mapping.{Mapping}
use Rattle.agg_evaluation.specs.Rows.{PlacedRow}

pub record Index : Type 0 where
  pub name : List ℕ
  pub mapping : Mapping
  pub shards : List (List PlacedRow)

abbrev pub field_kinds : Index → List FieldKind
field_kinds index = map (λ f. f.kind) index.mapping.fields

-- the numbers of all shards, from 0 on
abbrev pub shard_numbers : Index → List ℕ
shard_numbers index = range_with_len 0 (length index.shards)

-- the rows of the shard of this number
abbrev pub rows_in : Index → ℕ → List PlacedRow
rows_in index shard = slice_index_or index.shards shard []
