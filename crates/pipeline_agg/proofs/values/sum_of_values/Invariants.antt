use Rattle.std.proofs.Common.{take}
use Rattle.agg_spec.specs.Pipelines.{values_of}
use Rattle.bucket_order.specs.Kinds.{child_kinds}
use Rattle.pipeline_agg.specs.Bounds.{IsTotal}
use Rattle.pipeline_agg.proofs.values.sum_of_values.Given as goal

-- the sum of the buckets so far
abbrev pub invariant-loop-bucket : goal.invariant-loop-bucket
invariant-loop-bucket l = IsTotal (values_of (child_kinds l.children) l.path (take l.bucket-index l.buckets)) l.bucket-index l.sum
