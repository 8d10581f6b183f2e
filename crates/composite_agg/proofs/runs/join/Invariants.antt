use Rattle.std.proofs.Common.{◌≡◌}
use Rattle.composite_agg.specs.Runs.{in_runs}
use Rattle.composite_agg.proofs.runs.join.Given as goal

abbrev pub invariant-loop-run : goal.invariant-loop-run
invariant-loop-run g l = l.items.items ≡ in_runs l.yielded
