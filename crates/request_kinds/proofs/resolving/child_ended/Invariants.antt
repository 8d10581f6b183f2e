use Rattle.std.proofs.Common.{◌≡◌, drop}
use Rattle.agg_reading.specs.Orders.{child_from}
use Rattle.request_kinds.proofs.resolving.child_ended.Given as goal

abbrev pub invariant-loop-place : goal.invariant-loop-place
invariant-loop-place l = child_from l.ending l.place l.name (drop l.place l.children) ≡ child_from l.ending 0 l.name l.children
