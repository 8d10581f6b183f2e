use Rattle.std.proofs.Common.{◌≡◌, ◌++◌, map, drop}
use Rattle.growing_tree.specs.CodedBuckets.{coded_bucket}
use Rattle.growing_tree.specs.Frequent.{frequent}
use Rattle.growing_tree.specs.Measures.{measures_from, measures_of, metrics_at}
use Rattle.growing_tree.specs.Trees.{measured_buckets}
use Rattle.growing_tree.proofs.with_trees.with_trees.Given as goal

-- the buckets so far, and then those of the places that are left
abbrev pub invariant-loop-place : goal.invariant-loop-place
invariant-loop-place l =
    map coded_bucket l.coded.items ++ frequent l.least (measured_buckets (drop l.place l.codes) (measures_from (metrics_at l.measured.columns.items) l.place (drop l.place l.measured.counts.items)))
    ≡ frequent l.least (measured_buckets l.measured.places (measures_of l.measured))
