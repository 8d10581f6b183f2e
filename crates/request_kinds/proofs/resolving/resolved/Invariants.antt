use Rattle.std.proofs.Common.{◌≡◌, drop, []}
use Rattle.agg_reading.specs.Orders.{resolved}
use Rattle.request_kinds.proofs.resolving.resolved.Given as goal

abbrev pub invariant-loop-order : goal.invariant-loop-order
invariant-loop-order l = resolved l.children l.all (drop l.order-index l.orders) ≡ resolved l.children [] l.orders
