use Rattle.arrival_moves.proofs.Starts.{AreDrawn}
use Rattle.arrival_moves.proofs.places.task_counts.Given as goal

abbrev pub invariant-loop-search : goal.invariant-loop-search
invariant-loop-search l = AreDrawn l.plan l.search-index l.counts.items
