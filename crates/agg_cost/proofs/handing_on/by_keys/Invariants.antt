use Rattle.std.proofs.Common.{length, take}
use Rattle.agg_cost.specs.Counters.{IsCounter}
use Rattle.agg_cost.specs.Paths.{AreBelow}
use Rattle.agg_cost.proofs.Handing.{CarryOn}
use Rattle.agg_cost.proofs.handing_on.by_keys.Given as goal

abbrev pub invariant-loop-from : goal.invariant-loop-from
invariant-loop-from l = CarryOn l.shard.rows l.kind l.found.items (take l.from-index l.reached) × AreBelow (length l.shard.rows) l.found.items × IsCounter l.shard l.kind l.counter
