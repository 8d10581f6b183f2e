use Rattle.std.proofs.Common.{◌≡◌, map, take}
use Rattle.std.specs.List.{range_with_len}
use Rattle.agg_evaluation.specs.Whole.{empty_node}
use Rattle.partial_result.specs.Beginning.{empty_buckets_of}
use Rattle.partial_result.proofs.beginning.+empty.Given as goal

abbrev pub invariant-empty_buckets-loop-place : goal.invariant-empty_buckets-loop-place
invariant-empty_buckets-loop-place l = l.buckets ≡ empty_buckets_of (map empty_node l.children) (range_with_len 0 l.place)

abbrev pub invariant-empty_nodes-loop-agg : goal.invariant-empty_nodes-loop-agg
invariant-empty_nodes-loop-agg l = l.nodes ≡ map empty_node (take l.agg-index l.agg-items)
