use Rattle.std.proofs.Common.{◌≡◌, sum_by, take}
use Rattle.growing_tree.proofs.chosen.total_count.Given as goal

abbrev pub invariant-loop-count : goal.invariant-loop-count
invariant-loop-count l = l.total ≡ sum_by (λ n. n) (take l.count-index l.counts)
