use Rattle.std.proofs.Common.{◌≡◌, ◌∙◌, sym, ap, ℕ, List, Some}
use Rattle.std.specs.Prelude.{option_map, option_copied, option_and_then, slice_get}
use Rattle.std.proofs.lemmas.Option.{slice_get-map}
use Rattle.agg_model.specs.declared.partial.Bucket.{Bucket}
use Rattle.agg_model.specs.declared.partial.Metric.{Metric}
use Rattle.agg_model.specs.declared.partial.Node.{Node, out-Node}
use Rattle.agg_model.specs.declared.partial.Node.TheOpen.{Node-F}
use Rattle.agg_model.specs.declared.partial.Node.TheVariants.{outs-Number}
use Rattle.agg_model.specs.declared.aggregation.Kind.{Kind}
use Rattle.agg_model.specs.declared.aggregation.Agg.{Agg}
use Rattle.agg_evaluation.specs.Orders.{child_value, metric_value, number_of}
use Rattle.bucket_order.specs.Kinds.{kind_of, child_kinds}
use Rattle.bucket_order.proofs.compare.value_at.Goals as goal

-- the value of the child that stands there
at_child : (aggs : List Agg) (i : ℕ) (b : Bucket) (a : Agg) (n : Node) (m : Metric) → slice_get aggs i ≡ Some a → slice_get b.children i ≡ Some n → out-Node n ≡ Node-F.Number m
    → child_value (child_kinds aggs) i b ≡ metric_value (kind_of a) m
at_child aggs i b a n m at_agg at_node is =
    ap (option_and_then (λ (k : Kind). option_and_then (λ n. option_and_then (metric_value k) (number_of (out-Node n))) (slice_get b.children i))) (slice_get-map kind_of aggs i ∙ ap (option_map kind_of) at_agg)
    ∙ ap (option_and_then (λ n. option_and_then (metric_value (kind_of a)) (number_of (out-Node n)))) at_node ∙ ap (λ f. option_and_then (metric_value (kind_of a)) (number_of f)) is

pub returns-in-Number : goal.returns-in-Number
returns-in-Number c =
    c.value_of.ensures
    ∙ sym (at_child c.args.children.now c.args.place c.args.bucket.now c.in_ok-agg.agg.now c.in_ok-metric.field-0.now c.in-Number.metric (sym c.get.ensures ∙ ap option_copied (c.in_ok-agg.was)) (sym c.get-2.ensures ∙ ap option_copied (c.in_ok-metric.was)) (ap out-Node c.in-Number.is ∙ outs-Number _))
