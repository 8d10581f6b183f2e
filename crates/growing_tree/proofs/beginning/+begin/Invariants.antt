use Rattle.std.proofs.Common.{◌≡◌, ◌≤◌, ◌-◌, length, map, take}
use Rattle.std.specs.Prelude.{All}
use Rattle.agg_evaluation.specs.Whole.{empty_node}
use Rattle.shard_columns.specs.Columns.{Columns}
use Rattle.growing_tree.specs.Decoded.{decoded, decoded_children}
use Rattle.growing_tree.specs.Shown.{IsEmptyBucket}
use Rattle.growing_tree.proofs.beginning.+begin.Given as goal

abbrev pub invariant-begin_trees-loop-place : goal.invariant-begin_trees-loop-place
invariant-begin_trees-loop-place l = record {
  trees : (shard : Columns) → decoded_children (map (decoded shard) l.ready) l.trees.items ≡ map empty_node (take l.place l.aggs);
  many : length l.trees.items ≡ l.place;
}

abbrev pub invariant-begin_buckets-loop-alloc : goal.invariant-begin_buckets-loop-alloc
invariant-begin_buckets-loop-alloc l = record {
  buckets : (shard : Columns) → All (IsEmptyBucket (map (decoded shard) l.ready) (map empty_node l.aggs)) l.buckets.items;
  few : length l.buckets.items ≤ l.count;
}

abbrev pub decreases-begin_buckets-loop-alloc : goal.decreases-begin_buckets-loop-alloc
decreases-begin_buckets-loop-alloc l = l.count - length l.buckets.items
