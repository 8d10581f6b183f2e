use Rattle.agg_spec.specs.Final.{empty_bucket, finisher}
use Rattle.agg_spec.specs.Filling.{bucket_at, filled_keys}
use Rattle.agg_spec.specs.GapCount.{interval_count}
use Rattle.std.proofs.Common.{map}
use Rattle.final_reduce.specs.Steps.{key_numbers}
use Rattle.final_reduce.proofs.FillSteps.{IsFilling}
use Rattle.final_reduce.proofs.filling.filled_buckets.Given as goal

abbrev pub decreases-loop-number : goal.decreases-loop-number
decreases-loop-number l = interval_count l.number l.span.last

-- the buckets so far, and then those of the intervals that are left
abbrev pub invariant-loop-number : goal.invariant-loop-number
invariant-loop-number l =
    IsFilling l.grid.spacing (empty_bucket (map finisher l.children))
    (map (bucket_at (empty_bucket (map finisher l.children)) l.fn.buckets) (filled_keys l.grid.spacing l.grid.extended l.grid.hard (key_numbers l.fn.buckets)))
    l.filled.items l.rest.items l.span.first l.number l.span.last
