use Rattle.std.proofs.Common.{take}
use Rattle.agg_model.specs.declared.aggregation.Agg.{size-Agg}
use Rattle.agg_cost.proofs.Holding.{ChildrenHoldAtMost}
use Rattle.agg_cost.proofs.width.+node_most.Given as goal

abbrev pub invariant-loop-child : goal.invariant-loop-child
invariant-loop-child l = ChildrenHoldAtMost l.shard.kinds l.shard.rows l.bytes l.initial.bytes (take l.child-index l.child-items) l.buckets l.below

abbrev pub decreases-node_most : goal.decreases-node_most
decreases-node_most l = size-Agg l.agg.now
