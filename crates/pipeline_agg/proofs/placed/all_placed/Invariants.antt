use Rattle.std.proofs.Common.{◌≡◌, take}
use Rattle.pipeline_agg.specs.Placed.{pipes_of}
use Rattle.pipeline_agg.proofs.placed.all_placed.Given as goal

-- the pipelines so far
abbrev pub invariant-loop-pipe : goal.invariant-loop-pipe
invariant-loop-pipe l = pipes_of l.placed.items ≡ take l.pipe-index l.pipe-items
