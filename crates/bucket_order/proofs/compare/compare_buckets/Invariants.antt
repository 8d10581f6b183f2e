use Rattle.std.proofs.Common.{◌≡◌, drop}
use Rattle.agg_evaluation.specs.Orders.{bucket_cmp}
use Rattle.bucket_order.specs.Kinds.{child_kinds}
use Rattle.bucket_order.proofs.compare.compare_buckets.Given as goal

-- the orders so far tie
abbrev pub invariant-loop-order : goal.invariant-loop-order
invariant-loop-order l = bucket_cmp (child_kinds l.children) l.orders l.a l.b ≡ bucket_cmp (child_kinds l.children) (drop l.order-index l.order-items) l.a l.b
