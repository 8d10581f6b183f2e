use Rattle.std.proofs.Common.{◌∙◌, ap, sym, map, None}
use Rattle.std.specs.List.{list_all}
use Rattle.std.proofs.lemmas.Result.{IfOk-weaker}
use Rattle.agg_model.specs.declared.partial.Bucket.{Bucket}
use Rattle.list_laws.specs.Sorting.{sorted}
use Rattle.bucket_order.specs.Kinds.{child_kinds}
use Rattle.bucket_order.proofs.SameOrder.{list_all-sorted}
use Rattle.agg_evaluation.specs.Orders.{bucket_cmp}
use Rattle.agg_evaluation.specs.Trees.{pass_each}
use Rattle.agg_spec.specs.Final.{finisher, finish_bucket, buckets_answer, empty_bucket}
use Rattle.final_reduce.specs.Standing.{builder, is_standing, with_gaps}
use Rattle.final_reduce.proofs.CutAgrees.{nothing-standing, empty-standing}
use Rattle.final_reduce.proofs.FilledPasses.{gaps-pass}
use Rattle.final_reduce.proofs.FinishableLaws.{kinds_of_builders}
use Rattle.final_reduce.proofs.select.select_filled.Goals as goal

pub select_buckets-requires : goal.select_buckets-requires
select_buckets-requires c =
    let g = c.args.grid in
    let children = c.args.children.now in
    let passes = λ (b : Bucket). pass_each (map is_standing children) b.children in
    record {
      children = ap (list_all passes) c.in_ok-filled.ensures
          ∙ list_all-sorted passes (bucket_cmp (child_kinds children) c.args.order.now) _
          (gaps-pass passes (empty_bucket (map finisher children)) (λ key. nothing-standing children) g.spacing c.args.min_doc_count g.extended g.hard c.args.buckets c.requires.children);
    }

pub returns-clause-answer : goal.returns-clause-answer
returns-clause-answer c =
    let g = c.args.grid in
    let children = c.args.children.now in
    let builders = map builder children in
    IfOk-weaker c.select_buckets.result _ _ (λ s is. λ name.
    is name ∙ ap (λ bs. buckets_answer name (map (finish_bucket builders None) bs)) (c.in_ok-filled.ensures
    ∙ (λ i. sorted (bucket_cmp (sym (kinds_of_builders children) i) c.args.order.now) (with_gaps (λ key. sym (empty-standing children key) i) g.spacing c.args.min_doc_count g.extended g.hard c.args.buckets)))) c.select_buckets.ensures.answer
