use Rattle.std.proofs.Common.{◌≡◌, map, take}
use Rattle.shard_columns.specs.Built.{columns_from}
use Rattle.shard_columns.proofs.index.shards_from.Given as goal

-- the shards of the lists so far
abbrev pub invariant-loop-list : goal.invariant-loop-list
invariant-loop-list l = l.shards ≡ map (columns_from l.mapping) (take l.list-index l.documents)
