use Rattle.std.proofs.Common.{◌∙◌, ap}
use Rattle.std.specs.Prelude.{not}
use Rattle.final_reduce.proofs.SpanLaws.{has-some}
use Rattle.final_reduce.proofs.spans.has_buckets.Goals as goal

pub returns-then-not-is_empty : goal.returns-then-not-is_empty
returns-then-not-is_empty c =
    let g = c.args.grid in
    ap not c.if-not-is_empty.true ∙ has-some g.spacing g.extended g.hard c.requires.spaced c.args.buckets.now c.requires.keys c.if-not-is_empty.ensures
