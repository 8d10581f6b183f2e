use Rattle.std.proofs.Common.{◌≡◌, ◌+◌, ◌<◌, ◌^◌, sum_by, take}
use Rattle.agg_evaluation.specs.Cost.{node_cost}
use Rattle.partial_result.specs.Costs.{cost_of_bucket}
use Rattle.partial_result.proofs.costing.+costs.Given as goal

abbrev pub invariant-cost_of_node-loop-bucket : goal.invariant-cost_of_node-loop-bucket
invariant-cost_of_node-loop-bucket l = record {
  is : l.total ≡ 512 + sum_by cost_of_bucket (take l.bucket-index l.bucket-items);
  all : node_cost l.node ≡ 512 + sum_by cost_of_bucket l.bucket-items;
}

abbrev pub invariant-cost_of_nodes-loop-node : goal.invariant-cost_of_nodes-loop-node
invariant-cost_of_nodes-loop-node l = l.total ≡ sum_by node_cost (take l.node-index l.node-items)
