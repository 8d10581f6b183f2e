use Rattle.std.proofs.Common.{◌≡◌, ◌++◌, map, drop}
use Rattle.std.specs.Vec.Iter.{into_iter_items}
use Rattle.growing_tree.specs.CodedBuckets.{coded_bucket}
use Rattle.growing_tree.specs.Frequent.{frequent}
use Rattle.growing_tree.specs.Trees.{coded_buckets}
use Rattle.growing_tree.proofs.coded.with_codes.Given as goal

-- the buckets so far, and then those of the codes that are left
abbrev pub invariant-loop-code : goal.invariant-loop-code
invariant-loop-code l = map coded_bucket l.coded.items ++ frequent l.least (coded_buckets (drop l.code-index l.code-items) (into_iter_items l.left)) ≡ frequent l.least (coded_buckets l.code-items l.fn.keyed.buckets.items)
