use Rattle.std.proofs.Common.{◌∙◌, rules}
use Rattle.std.proofs.lemmas.Int.{to_z-of_z}
use mir.Syntax.{w128}
use mir.Val.{SFits}
use Rattle.agg_spec.specs.GapCount.{interval_count}
use Rattle.final_reduce.proofs.SpanLaws.{span-count}
use Rattle.final_reduce.proofs.spans.filled_number.Goals as goal

pub returns-in-Some : goal.returns-in-Some
returns-in-Some c =
    let g = c.args.grid in
    let span = c.in-Some.span in
    let first : SFits w128 span.first = search rules in
    let last : SFits w128 span.last = search rules in
    c.interval_count.ensures ∙ (λ i. interval_count (to_z-of_z w128 span.first first i) (to_z-of_z w128 span.last last i))
    ∙ span-count g.spacing g.extended g.hard c.requires.spaced c.args.buckets.now c.requires.keys span.first span.last c.in-Some.ensures.span
