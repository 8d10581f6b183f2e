use Rattle.std.proofs.Common.{◌≡◌, drop, false}
use Rattle.agg_reading.specs.PipePaths.{placed_pipes}
use Rattle.request_pipes.specs.Arounds.{around_value}
use Rattle.request_pipes.proofs.placing.check_places.Given as goal

abbrev pub invariant-loop-found : goal.invariant-loop-found
invariant-loop-found l = placed_pipes (around_value l.around) l.sorts (drop l.found-index l.found-items) ≡ placed_pipes (around_value l.around) false l.pipes
