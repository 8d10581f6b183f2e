use Rattle.std.proofs.Common.{◌≡◌, drop, []}
use Rattle.agg_reading.specs.PipePaths.{sort_paths}
use Rattle.request_pipes.proofs.paths.sort_paths.Given as goal

abbrev pub invariant-loop-order : goal.invariant-loop-order
invariant-loop-order l = sort_paths l.aggs l.orders (drop l.order-index l.sort) ≡ sort_paths l.aggs [] l.sort
