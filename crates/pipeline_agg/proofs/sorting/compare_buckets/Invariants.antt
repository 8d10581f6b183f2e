use Rattle.std.proofs.Common.{◌≡◌, drop}
use Rattle.agg_spec.specs.Pipelines.{bucket_sort_cmp}
use Rattle.bucket_order.specs.Kinds.{child_kinds}
use Rattle.pipeline_agg.proofs.sorting.compare_buckets.Given as goal

-- the orders so far tie
abbrev pub invariant-loop-order : goal.invariant-loop-order
invariant-loop-order l = bucket_sort_cmp (child_kinds l.children) l.sort l.a l.b ≡ bucket_sort_cmp (child_kinds l.children) (drop l.order-index l.order-items) l.a l.b
