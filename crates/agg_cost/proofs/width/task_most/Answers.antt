use Rattle.std.proofs.Common.{◌<◌, List, length, get_or, ◌∙◌, ap, subst}
use Rattle.agg_model.specs.declared.aggregation.Agg.{Agg}
use Rattle.agg_cost.proofs.Narrowness.{agg-more, task-narrow}
use Rattle.agg_cost.proofs.Totals.{agg-made}
use Rattle.agg_cost.proofs.width.task_most.Goals as goal

pub node_most-requires : goal.node_most-requires
node_most-requires c =
    let i = c.loop-agg.agg-index in
    let agg = c.agg-item.result in
    let aggs = c.as_slice-agg-items.ensures in
    agg-made c.args.shard.now c.args.search.now i agg c.requires (subst (λ (xs : List Agg). i < length xs) aggs c.loop-agg-test.true) (c.agg-item.is ∙ ap (λ (xs : List Agg). get_or xs i agg) aggs)

pub loop-agg-preserved : goal.loop-agg-preserved
loop-agg-preserved c =
    let shard = c.args.shard.now in
    agg-more shard.rows shard.kinds c.args.search.now c.as_slice-agg-items.result.now c.loop-agg.agg-index c.agg-item.result c.loop-agg.bytes c.in_ok-node_most.field-0 c.in_ok-bytes.bytes
    c.loop-agg-test.true c.agg-item.is (c.is_narrow.ensures search) c.in_ok-node_most.ensures c.in_ok-bytes.ensures.1 c.loop-agg.invariant

pub returns : goal.returns
returns c =
    let shard = c.args.shard.now in
    task-narrow shard.rows shard.kinds c.args.search.now c.as_slice-agg-items.result.now c.loop-agg.agg-index c.loop-agg.bytes c.in_ok-checked_mul.field-0 c.as_slice-agg-items.ensures c.loop-agg-test.false
    c.loop-agg.invariant c.in_ok-checked_mul.ensures.1 c.within_greatest.result c.within_greatest.ensures
