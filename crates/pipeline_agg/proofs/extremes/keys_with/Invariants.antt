use Rattle.std.proofs.Common.{◌≡◌, take}
use Rattle.agg_spec.specs.Pipelines.{keys_with}
use Rattle.bucket_order.specs.Kinds.{child_kinds}
use Rattle.pipeline_agg.proofs.extremes.keys_with.Given as goal

-- the keys among the buckets so far
abbrev pub invariant-loop-bucket : goal.invariant-loop-bucket
invariant-loop-bucket l = l.keys ≡ keys_with (child_kinds l.children) l.path l.value (take l.bucket-index l.buckets)
