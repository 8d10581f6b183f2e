use Rattle.std.proofs.Common.{◌≡◌, ◌+◌, take}
use Rattle.std.specs.Prelude.{sum_by}
use Rattle.agg_model.specs.declared.aggregation.Agg.{size-Agg}
use Rattle.agg_evaluation.specs.Ceiling.{node_bound}
use Rattle.agg_cost.specs.Capped.{capped}
use Rattle.agg_cost.specs.Paths.{reached_by}
use Rattle.agg_cost.proofs.bounds.+node_bytes.Given as goal

abbrev pub invariant-loop-child : goal.invariant-loop-child
invariant-loop-child l =
    l.bytes ≡ capped (l.initial.bytes + sum_by (λ c. node_bound l.shard.kinds l.shard.rows c l.buckets (reached_by l.shard.rows l.handed.items)) (take l.child-index l.child-items))

abbrev pub decreases-node_bytes : goal.decreases-node_bytes
decreases-node_bytes l = size-Agg l.agg.now
