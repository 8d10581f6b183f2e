use Rattle.growing_tree.proofs.Steady.{SimpleBelow}
use Rattle.growing_tree.proofs.beneath_roots.are_simple.Given as goal

abbrev pub invariant-loop-place : goal.invariant-loop-place
invariant-loop-place l = SimpleBelow l.aggs l.ready l.place
