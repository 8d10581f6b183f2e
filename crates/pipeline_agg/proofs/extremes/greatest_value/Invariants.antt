use Rattle.std.proofs.Common.{◌≡◌, take}
use Rattle.agg_spec.specs.Pipelines.{greatest_value, values_of}
use Rattle.bucket_order.specs.Kinds.{child_kinds}
use Rattle.pipeline_agg.proofs.extremes.greatest_value.Given as goal

-- the greatest value of the buckets so far
abbrev pub invariant-loop-bucket : goal.invariant-loop-bucket
invariant-loop-bucket l = l.greatest ≡ greatest_value (values_of (child_kinds l.children) l.path (take l.bucket-index l.buckets))
