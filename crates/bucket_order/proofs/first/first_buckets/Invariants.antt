use Rattle.std.proofs.Common.{◌≡◌, length, take}
use Rattle.std.specs.Prelude.{drop}
use Rattle.agg_evaluation.specs.Orders.{bucket_cmp}
use Rattle.bucket_order.specs.Kinds.{child_kinds}
use Rattle.list_laws.specs.Sorting.{sorted}
use Rattle.bucket_order.proofs.first.first_buckets.Given as goal

-- the first of those that were taken from the end
abbrev pub invariant-loop-bucket : goal.invariant-loop-bucket
invariant-loop-bucket l = record {
  kept : l.kept.items ≡ take l.count (sorted (bucket_cmp (child_kinds l.children) l.orders) (drop (length l.left.items) l.fn.buckets.items));
  left : l.left.items ≡ take (length l.left.items) l.fn.buckets.items;
}

abbrev pub decreases-loop-bucket : goal.decreases-loop-bucket
decreases-loop-bucket l = length l.left.items
