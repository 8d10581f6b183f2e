-- Threads may share an index and its shards by reference.
use denote.Param.Send.{IsSync, sendable}
use Rattle.std.proofs.Crossing.{crosses}
use Rattle.agg_model.specs.contracts.mapping.FieldKind as FieldKind
use Rattle.shard_columns.specs.contracts.shard.Shard as Shard
use Rattle.shard_columns.specs.contracts.index.Index as Index
use Rattle.agg_cost.proofs.SharedTypes.{Text-sync, List-sync}

FieldKind-sync : IsSync FieldKind.the_row
FieldKind-sync = search (sendable, crosses) depth 40

-- the search goes through whatever fields the shard has
pub Shard-sync : IsSync Shard.the_row
Shard-sync = search (sendable, crosses, Text-sync, FieldKind-sync) depth 40 fits 20000

pub Index-sync : IsSync Index.the_row
Index-sync = search (sendable, crosses, Text-sync, Shard-sync, List-sync) depth 40
