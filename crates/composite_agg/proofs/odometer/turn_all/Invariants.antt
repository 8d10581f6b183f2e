use Rattle.composite_agg.proofs.Turning.{IsTurnedTo}
use Rattle.composite_agg.proofs.odometer.turn_all.Given as goal

abbrev pub invariant-loop-left : goal.invariant-loop-left
invariant-loop-left l = IsTurnedTo l.fn.wheels.items l.wheels.items l.left

abbrev pub decreases-loop-left : goal.decreases-loop-left
decreases-loop-left l = l.left
