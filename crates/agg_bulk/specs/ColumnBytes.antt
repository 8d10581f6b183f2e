-- The bytes of the columns of shards that were built ('Circuit breaker settings' of Elasticsearch Reference 8, fielddata).
use Rattle.std.specs.Prelude.{ℕ, List, length, sum_by}
use Rattle.agg_evaluation.specs.ColumnBytes.{shard_bytes}
use Rattle.shard_columns.specs.Columns.{Columns}

abbrev pub bytes_in : Columns → ℕ
bytes_in s = shard_bytes (length s.kinds) s.rows

abbrev pub all_bytes : List Columns → ℕ
all_bytes shards = sum_by bytes_in shards
