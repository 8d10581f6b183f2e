use Rattle.std.proofs.Common.{◌≡◌, ◌++◌, map, drop}
use Rattle.agg_spec.specs.Remarks.{pipes_here}
use Rattle.pipeline_agg.specs.Entries.{all_small, beginning, teller_of}
use Rattle.pipeline_agg.specs.Placed.{pipes_of}
use Rattle.pipeline_agg.proofs.entries.tellers.Given as goal

-- those so far, and those that are left
abbrev pub invariant-loop-placed : goal.invariant-loop-placed
invariant-loop-placed l =
    (map teller_of l.tellers.items ++ map beginning (pipes_here (pipes_of (drop l.placed-index l.pipes))) ≡ map beginning (pipes_here (pipes_of l.pipes)))
    × all_small l.tellers.items
