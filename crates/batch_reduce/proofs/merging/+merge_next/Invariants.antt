use Rattle.batch_reduce.proofs.merging.+merge_next.Given as goal

abbrev pub decreases-merge_next : goal.decreases-merge_next
decreases-merge_next l = l.count
