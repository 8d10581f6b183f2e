use denote.Param.Send.{sendable}
use Rattle.std.proofs.Crossing.{crosses}
use Rattle.agg_cost.proofs.SharedTypes.{Search-sync}
use Rattle.agg_cost.proofs.SharedShards.{Index-sync}
use Rattle.agg_cost.proofs.searches.found_by_shard.Goals as goal

pub for_each_mut-requires-sync-F : goal.for_each_mut-requires-sync-F
for_each_mut-requires-sync-F g c κs within = search (sendable, crosses, Search-sync, Index-sync) depth 40
