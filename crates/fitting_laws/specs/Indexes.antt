-- An index of shards as the definitions of answers see it ('Index modules').
use Rattle.agg_spec.specs.Index.{Index}
use Rattle.shard_columns.specs.declared.index.Index.{Index as ShardIndex}
use Rattle.shard_columns.specs.Index.{rows_by_shard}

abbrev pub index_of : ShardIndex → Index
index_of index = record { name = index.name; mapping = index.mapping; shards = rows_by_shard index.shards }
