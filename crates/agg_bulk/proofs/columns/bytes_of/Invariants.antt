use Rattle.std.proofs.Common.{◌≡◌, take}
use Rattle.agg_bulk.specs.ColumnBytes.{all_bytes}
use Rattle.agg_bulk.proofs.columns.bytes_of.Given as goal

-- the bytes of the shards so far
abbrev pub invariant-loop-shard : goal.invariant-loop-shard
invariant-loop-shard l = l.bytes ≡ all_bytes (take l.shard-index l.shards)
