use Rattle.std.proofs.Common.{sym, ap, ◌∙◌}
use Rattle.std.specs.Prelude.{take}
use Rattle.agg_spec.specs.Pipelines.{greatest_value, values_of}
use Rattle.bucket_order.specs.Kinds.{child_kinds}
use Rattle.pipeline_agg.specs.Bounds.{greater}
use Rattle.pipeline_agg.proofs.ValueLaws.{greatest-more, values-more}
use Rattle.pipeline_agg.proofs.extremes.greatest_value.Goals as goal

pub loop-bucket-preserved : goal.loop-bucket-preserved
loop-bucket-preserved c =
    let b = c.bucket-item.result in
    let i = c.loop-bucket.bucket-index in
    let kinds = child_kinds c.args.children.now in
    let fronts = values_of kinds c.args.path (take i c.args.buckets.now) in
    let more = values-more kinds c.args.path c.args.buckets.now i b c.loop-bucket-test.true c.bucket-item.is in
    c.greater-greatest.ensures ∙ ap (λ w. greater w c.value_at.result) c.loop-bucket.invariant ∙ ap (greater (greatest_value fronts)) c.value_at.ensures.value
    ∙ sym (greatest-more fronts _) ∙ ap greatest_value (sym more)
