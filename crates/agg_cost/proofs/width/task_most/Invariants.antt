use Rattle.std.proofs.Common.{take}
use Rattle.agg_cost.proofs.Narrowness.{AreNarrow}
use Rattle.agg_cost.proofs.width.task_most.Given as goal

abbrev pub invariant-loop-agg : goal.invariant-loop-agg
invariant-loop-agg l = AreNarrow l.shard.rows l.shard.kinds l.fn.search l.bytes (take l.agg-index l.agg-items)
