use Rattle.std.proofs.Common.{◌≡◌, drop, []}
use Rattle.agg_reading.specs.PipePaths.{resolved_pipes}
use Rattle.request_pipes.proofs.fitting.resolved_pipes.Given as goal

abbrev pub invariant-loop-found : goal.invariant-loop-found
invariant-loop-found l = resolved_pipes l.aggs l.resolved (drop l.found-index l.found-items) ≡ resolved_pipes l.aggs [] l.pipes
