-- A sibling's values are those of the children and the buckets that stand at its place.
use Rattle.std.proofs.Common.{◌≡◌, sym, ap, ◌∙◌, subst, Some, map, List}
use Rattle.agg_model.specs.declared.aggregation.Agg.{Agg}
use Rattle.agg_model.specs.declared.aggregation.Kind.{Kind}
use Rattle.agg_model.specs.declared.answer.BucketAnswer.{BucketAnswer}
use Rattle.agg_spec.specs.Notes.{piper}
use Rattle.agg_spec.specs.Pipelines.{greatest_value, least_value, values_of}
use Rattle.agg_spec.specs.Remarks.{sibling_buckets}
use Rattle.bucket_order.specs.Kinds.{child_kinds}
use Rattle.pipeline_agg.specs.Bounds.{AreBucketsInRange}
use Rattle.pipeline_agg.specs.Summaries.{extreme, summary_of, total}
use Rattle.pipeline_agg.proofs.SiblingLaws.{kinds-at, ranges-at}
use Rattle.pipeline_agg.proofs.siblings.summary_in.Goals as goal

pub total_in-requires : goal.total_in-requires
total_in-requires c =
    (record {
      in_range = subst (λ (bs : List BucketAnswer). AreBucketsInRange c.at-beside.result.children.now bs) (sym c.at-beside.ensures.buckets)
          (subst (λ (cs : List Agg). AreBucketsInRange cs (sibling_buckets c.in-SumBucket.sibling c.args.nodes.now)) (sym c.at-beside.ensures.children)
          (ranges-at c.in-SumBucket.sibling c.args.aggs.now c.args.nodes.now c.requires.in_range));
    })

pub returns-in-SumBucket : goal.returns-in-SumBucket
returns-in-SumBucket c =
    let says = λ (ks : List Kind) (bs : List BucketAnswer). total ks c.in-SumBucket.path bs in
    let kinds = ap child_kinds c.at-beside.ensures.children ∙ kinds-at c.in-SumBucket.sibling c.args.aggs.now in
    ap Some (c.total_in.ensures ∙ ap (λ ks. says ks c.at-beside.result.buckets.now) kinds ∙ ap (says _) c.at-beside.ensures.buckets)
    ∙ sym (ap (summary_of (map piper c.args.aggs.now) c.args.nodes.now) c.in-SumBucket.is)

pub returns-in-MinBucket : goal.returns-in-MinBucket
returns-in-MinBucket c =
    let says = λ (ks : List Kind) (bs : List BucketAnswer). extreme ks c.in-MinBucket.path (least_value (values_of ks c.in-MinBucket.path bs)) bs in
    let kinds = ap child_kinds c.at-beside-in-MinBucket.ensures.children ∙ kinds-at c.in-MinBucket.sibling c.args.aggs.now in
    ap Some (c.in_ok-least_in-in-MinBucket.ensures ∙ ap (λ ks. says ks c.at-beside-in-MinBucket.result.buckets.now) kinds ∙ ap (says _) c.at-beside-in-MinBucket.ensures.buckets)
    ∙ sym (ap (summary_of (map piper c.args.aggs.now) c.args.nodes.now) c.in-MinBucket.is)

pub returns-in-MaxBucket : goal.returns-in-MaxBucket
returns-in-MaxBucket c =
    let says = λ (ks : List Kind) (bs : List BucketAnswer). extreme ks c.in-MaxBucket.path (greatest_value (values_of ks c.in-MaxBucket.path bs)) bs in
    let kinds = ap child_kinds c.at-beside-in-MaxBucket.ensures.children ∙ kinds-at c.in-MaxBucket.sibling c.args.aggs.now in
    ap Some (c.in_ok-greatest_in-in-MaxBucket.ensures ∙ ap (λ ks. says ks c.at-beside-in-MaxBucket.result.buckets.now) kinds ∙ ap (says _) c.at-beside-in-MaxBucket.ensures.buckets)
    ∙ sym (ap (summary_of (map piper c.args.aggs.now) c.args.nodes.now) c.in-MaxBucket.is)
