use Rattle.std.proofs.Common.{◌≡◌, ◌++◌, map}
use Rattle.std.specs.Vec.Iter.{into_iter_items}
use Rattle.agg_reading.specs.Request.{pipe_below}
use Rattle.agg_request.proofs.parts.with_pipes_below.Given as goal

-- those that stand there, and those that are left
abbrev pub invariant-loop-pipe : goal.invariant-loop-pipe
invariant-loop-pipe l = l.all ++ map (pipe_below l.place) (into_iter_items l.pipe-iterator) ≡ l.fn.found ++ map (pipe_below l.place) l.fn.pipes
