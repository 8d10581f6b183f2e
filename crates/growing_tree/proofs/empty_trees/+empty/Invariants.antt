use Rattle.std.proofs.Common.{◌≡◌, ◌-◌, ◌^◌, map, min, take}
use Rattle.std.specs.Prelude.{sum_by}
use Rattle.agg_evaluation.specs.Cost.{node_cost}
use Rattle.agg_evaluation.specs.Whole.{empty_node}
use Rattle.growing_tree.proofs.empty_trees.+empty.Given as goal

abbrev pub invariant-empty_bytes-loop-agg : goal.invariant-empty_bytes-loop-agg
invariant-empty_bytes-loop-agg l = l.bytes ≡ min (sum_by node_cost (map empty_node (take l.agg-index l.agg-items))) (2 ^ 64 - 1)
