use Rattle.std.proofs.Common.{◌≡◌, ◌∙◌, sym, ap, subst, arith, IfOk}
use Rattle.std.specs.Prelude.{sum_by}
use Rattle.agg_model.specs.declared.partial.Node.{Node}
use Rattle.agg_evaluation.specs.Orders.{bucket_count}
use Rattle.agg_evaluation.specs.Shard.{trimmed_node}
use Rattle.bucket_order.specs.Kinds.{child_kinds}
use Rattle.agg_model.specs.declared.aggregation.Agg.{out-Agg}
use Rattle.terms_agg.proofs.TrimLaws.{trimmed-Terms}
use Rattle.terms_agg.proofs.trimming.trim.Goals as goal

pub returns-in-Keyed : goal.returns-in-Keyed
returns-in-Keyed c =
    let kinds = child_kinds (out-Agg c.args.agg.now).children in
    let all = c.into_vec-all.ensures in
    let total = c.total_count-total.ensures ∙ ap (sum_by bucket_count) (c.as_slice.ensures.value ∙ all) in
    let is = (λ i. trimmed_node kinds c.in-Terms.shard_size c.in-Terms.order (total i) (all i)) ∙ sym (trimmed-Terms c.args.agg.now c.args.node c.in-Terms.field c.in-Terms.size c.in-Terms.shard_size c.in-Terms.min_doc_count c.in-Terms.order c.in-Terms.include c.in-Terms.exclude c.in-Terms.missing c.in-Terms.show_error
    c.in-Keyed.buckets c.in-Keyed.error c.in-Keyed.full c.in-Keyed.cut c.in-Terms.is c.in-Keyed.is) in
    subst (λ (m : Node). IfOk c.trim_buckets.result (λ n. n ≡ m)) is c.trim_buckets.ensures
