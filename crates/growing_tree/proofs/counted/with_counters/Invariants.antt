use Rattle.std.proofs.Common.{◌≡◌, ◌++◌, map, drop}
use Rattle.growing_tree.specs.CodedBuckets.{coded_bucket}
use Rattle.growing_tree.specs.Frequent.{frequent}
use Rattle.growing_tree.specs.Trees.{counter_buckets}
use Rattle.growing_tree.proofs.counted.with_counters.Given as goal

-- the buckets so far, and then those of the counters that are left
abbrev pub invariant-loop-place : goal.invariant-loop-place
invariant-loop-place l = map coded_bucket l.coded.items ++ frequent l.least (counter_buckets l.place (drop l.place l.counters)) ≡ frequent l.least (counter_buckets 0 l.counters)
