use Rattle.std.proofs.Common.{◌≡◌, ◌+◌, ◌++◌, length, map, drop}
use Rattle.std.specs.Vec.Iter.{into_iter_items}
use Rattle.growing_tree.specs.Finished.{finished_bucket, finished_children}
use Rattle.growing_tree.specs.CodedBuckets.{coded_bucket}
use Rattle.growing_tree.specs.Trees.{numbered_buckets}
use Rattle.growing_tree.proofs.finishing.+finish.Given as goal

-- the nodes so far, and then those of the trees that are left
abbrev pub invariant-finish_children-loop-place : goal.invariant-finish_children-loop-place
invariant-finish_children-loop-place l = record {
  rest : l.nodes ++ finished_children l.shard (drop l.place l.aggs) (drop l.place l.ready) (into_iter_items l.left) ≡ finished_children l.shard l.aggs l.ready l.fn.trees.items;
  many : length (into_iter_items l.left) + l.place ≡ length l.aggs;
}

-- the buckets so far, and then those of the codes that are left
abbrev pub invariant-finish_coded-loop-coded : goal.invariant-finish_coded-loop-coded
invariant-finish_coded-loop-coded l = record {
  next : (goal.iterator-finish_coded-loop-coded).can_next l.coded-iterator;
  finite : (goal.iterator-finish_coded-loop-coded).is_finite l.coded-iterator;
  rest : l.finished.items ++ map (finished_bucket l.shard l.agg l.ready) (map coded_bucket (into_iter_items l.coded-iterator)) ≡ map (finished_bucket l.shard l.agg l.ready) (map coded_bucket l.fn.buckets.items);
}

-- the buckets so far, and then those that are left
abbrev pub invariant-finish_fixed-loop-bucket : goal.invariant-finish_fixed-loop-bucket
invariant-finish_fixed-loop-bucket l = record {
  next : (goal.iterator-finish_fixed-loop-bucket).can_next l.bucket-iterator;
  finite : (goal.iterator-finish_fixed-loop-bucket).is_finite l.bucket-iterator;
  rest : l.finished ++ map (finished_bucket l.shard l.agg l.ready) (numbered_buckets (length l.finished) (into_iter_items l.bucket-iterator)) ≡ map (finished_bucket l.shard l.agg l.ready) (numbered_buckets 0 l.fn.buckets.items);
}
