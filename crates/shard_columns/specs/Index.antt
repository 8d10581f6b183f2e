-- The shards of an index (Elasticsearch Reference 8, 'Index modules').
use Rattle.std.specs.Prelude.{ℕ, List, [], ◌∷◌, map, sum_by}
use Rattle.agg_model.specs.declared.mapping.Mapping.{Mapping}
use Rattle.agg_model.specs.declared.row.Document.{Document}
use Rattle.agg_evaluation.specs.Rows.{PlacedRow, rows_of_documents}
use Rattle.agg_evaluation.specs.RowsWeight.{rows_weight}
use Rattle.shard_columns.specs.Built.{IsShardOf}
use Rattle.shard_columns.specs.Columns.{Columns}

-- each is a shard of the mapping
abbrev pub AreShardsOf : Mapping → List Columns → Type 0
AreShardsOf m [] = Unit {0}
AreShardsOf m (s ∷ ss) = IsShardOf m s × AreShardsOf m ss

-- the rows of each shard: an index that the definitions speak of has these
abbrev pub rows_by_shard : List Columns → List (List PlacedRow)
rows_by_shard shards = map (λ s. s.rows) shards

-- the weight of all rows
abbrev pub shards_weight : List Columns → ℕ
shards_weight shards = sum_by (λ s. rows_weight s.rows) shards

-- the weight of the rows of these documents, one list for each shard
abbrev pub lists_weight : List (List Document) → ℕ
lists_weight lists = sum_by (λ documents. rows_weight (rows_of_documents documents)) lists
