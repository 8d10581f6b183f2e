use Rattle.std.proofs.Common.{◌≡◌, ◌++◌, map}
use Rattle.std.specs.Vec.Iter.{into_iter_items}
use Rattle.partial_result.specs.Merged.{other_bucket, other_node, united, merged_children}
use Rattle.partial_result.proofs.merging.+merge.Given as goal

-- the buckets so far, and then those that are left
abbrev pub invariant-merge_buckets-loop-bucket : goal.invariant-merge_buckets-loop-bucket
invariant-merge_buckets-loop-bucket l = record {
  next : (goal.iterator-merge_buckets-loop-bucket).can_next l.bucket-iterator;
  finite : (goal.iterator-merge_buckets-loop-bucket).is_finite l.bucket-iterator;
  rest : l.merged.items ++ united (map other_bucket (into_iter_items l.bucket-iterator)) l.rest.items ≡ united (map other_bucket l.fn.other) l.fn.into;
}

-- the children so far, and then those that are left
abbrev pub invariant-merge_children-loop-more : goal.invariant-merge_children-loop-more
invariant-merge_children-loop-more l = record {
  next : (goal.iterator-merge_children-loop-more).can_next l.more-iterator;
  finite : (goal.iterator-merge_children-loop-more).is_finite l.more-iterator;
  rest : l.children.items ++ merged_children (map other_node (into_iter_items l.more-iterator)) (into_iter_items l.left) ≡ merged_children (map other_node l.fn.other) l.fn.into;
}

abbrev pub invariant-merge_children-loop-child : goal.invariant-merge_children-loop-child
invariant-merge_children-loop-child l = record {
  next : (goal.iterator-merge_children-loop-child).can_next l.child-iterator;
  finite : (goal.iterator-merge_children-loop-child).is_finite l.child-iterator;
  rest : l.children.items ++ into_iter_items l.child-iterator ≡ merged_children (map other_node l.fn.other) l.fn.into;
}

abbrev pub invariant-merge_buckets-loop-mine : goal.invariant-merge_buckets-loop-mine
invariant-merge_buckets-loop-mine l = record {
  next : (goal.iterator-merge_buckets-loop-mine).can_next l.mine-iterator;
  finite : (goal.iterator-merge_buckets-loop-mine).is_finite l.mine-iterator;
  rest : l.merged.items ++ into_iter_items l.mine-iterator ≡ united (map other_bucket l.fn.other) l.fn.into;
}
