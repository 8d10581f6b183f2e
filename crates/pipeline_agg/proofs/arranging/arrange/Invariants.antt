use Rattle.std.proofs.Common.{◌≡◌, drop}
use Rattle.bucket_order.specs.Kinds.{child_kinds}
use Rattle.pipeline_agg.specs.Placed.{pipes_of}
use Rattle.pipeline_agg.specs.Told.{arranged_buckets}
use Rattle.pipeline_agg.proofs.arranging.arrange.Given as goal

-- the pipelines that are left make of these buckets what all make of all
abbrev pub invariant-loop-placed : goal.invariant-loop-placed
invariant-loop-placed l =
    arranged_buckets (child_kinds l.children) (pipes_of (drop l.placed-index l.pipes)) l.buckets.items ≡ arranged_buckets (child_kinds l.children) (pipes_of l.pipes) l.fn.buckets.items
