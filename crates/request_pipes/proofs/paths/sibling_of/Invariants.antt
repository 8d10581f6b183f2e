use Rattle.std.proofs.Common.{◌≡◌, drop}
use Rattle.agg_reading.specs.PipePaths.{sibling_from}
use Rattle.request_pipes.proofs.paths.sibling_of.Given as goal

abbrev pub invariant-loop-place : goal.invariant-loop-place
invariant-loop-place l = sibling_from l.place l.path (drop l.place l.aggs) ≡ sibling_from 0 l.path l.aggs
