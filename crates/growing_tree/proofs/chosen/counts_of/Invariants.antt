use Rattle.std.proofs.Common.{◌≡◌, map, take}
use Rattle.growing_tree.proofs.chosen.counts_of.Given as goal

abbrev pub invariant-loop-bucket : goal.invariant-loop-bucket
invariant-loop-bucket l = l.counts.items ≡ map (λ g. g.count) (take l.bucket-index l.buckets)
