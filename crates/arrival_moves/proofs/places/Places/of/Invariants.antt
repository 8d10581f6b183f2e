use Rattle.std.proofs.Common.{◌≡◌, ◌+◌}
use Rattle.arrival_moves.specs.Plans.{first_of}
use Rattle.arrival_moves.proofs.Starts.{AreStarts}
use Rattle.arrival_moves.proofs.places.Places.of.Given as goal

abbrev pub invariant-loop-count : goal.invariant-loop-count
invariant-loop-count l = AreStarts l.plan (l.count-index + 1) l.starts.items × (l.start ≡ first_of l.plan l.count-index)
