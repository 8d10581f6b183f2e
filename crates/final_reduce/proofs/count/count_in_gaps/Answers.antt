use Rattle.std.proofs.Common.{◌≡◌, ◌∙◌, ◌+◌, ◌*◌, map, min, arith}
use Rattle.agg_model.specs.declared.aggregation.Agg.{out-Agg}
use Rattle.agg_spec.specs.BucketCount.{greatest_count}
use Rattle.agg_spec.specs.GapCount.{below_empty}
use Rattle.final_reduce.specs.Standing.{form_of}
use Rattle.final_reduce.specs.Counts.{gap_count, tally}
use Rattle.final_reduce.proofs.CountLaws.{product-min}
use Rattle.final_reduce.proofs.FinishableLaws.{intervals-at}
use Rattle.final_reduce.proofs.count.count_in_gaps.Goals as goal

pub gap_count-gaps-requires-clause-interval : goal.gap_count-gaps-requires-clause-interval
gap_count-gaps-requires-clause-interval c = (intervals-at c.args.agg.now c.requires.intervals).0

pub count_of_nothing-requires : goal.count_of_nothing-requires
count_of_nothing-requires c = (intervals-at c.args.agg.now c.requires.intervals).1

pub returns : goal.returns
returns c =
    let a = out-Agg c.args.agg.now in
    let below = below_empty (map tally a.children) in
    let more : c.saturating_add.result ≡ min (1 + below) greatest_count = omega (arith, c.saturating_add.ensures, c.count_of_nothing.ensures) in
    c.saturating_mul.ensures ∙ (λ i. min (c.gap_count-gaps.ensures i * more i) greatest_count) ∙ product-min greatest_count (gap_count (form_of a.kind) c.args.buckets.now) (1 + below)
