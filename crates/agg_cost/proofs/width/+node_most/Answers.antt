use Rattle.std.proofs.Common.{◌<◌, ◌*◌, List, length, get_or, ◌∙◌, ap, subst, arith}
use denote.Param.Weighed.{most}
use Rattle.std.specs.Prelude.{ℕ}
use Rattle.std.proofs.lemmas.List.{take_all}
use Rattle.agg_model.specs.declared.aggregation.Agg.{Agg, out-Agg, size-Agg}
use Rattle.filters_agg.proofs.MadeAggs.{kind-made, child-made}
use Rattle.agg_cost.proofs.AggSizes.{children_less, item-most}
use Rattle.agg_cost.proofs.Conditions.{has-fields}
use Rattle.agg_cost.proofs.Holding.{ChildrenHoldAtMost, level-holds}
use Rattle.agg_cost.proofs.width.+node_most.Goals as goal

pub own_most-requires : goal.own_most-requires
own_most-requires t c = has-fields c.args.shard.now (out-Agg c.args.agg.now).kind (kind-made c.args.shard.now c.args.agg.now c.requires)

pub node_most-requires : goal.node_most-requires
node_most-requires t c =
    let shard = c.args.shard.now in
    let agg = c.args.agg.now in
    let items = c.as_slice-child-items.result.now in
    let i = c.loop-child.child-index in
    let child = c.child-item.result in
    let children = c.as_slice-child-items.ensures in
    let less = item-most items i child c.loop-child-test.true c.child-item.is in
    let whole = ap (most size-Agg) children in
    let deeper = children_less agg in
    let within : i < length (out-Agg agg).children = subst (λ (cs : List Agg). i < length cs) children c.loop-child-test.true in
    let is = c.child-item.is ∙ ap (λ (cs : List Agg). get_or cs i child) children in
    (omega (arith, c.decreases, less, whole, deeper), child-made shard agg i child c.requires within is)

pub returns : goal.returns
returns t c =
    let kinds = c.args.shard.now.kinds in
    let rows = c.args.shard.now.rows in
    let agg = c.args.agg.now in
    let items = c.as_slice-child-items.result.now in
    let all = take_all c.loop-child.child-index items c.loop-child-test.false ∙ c.as_slice-child-items.ensures in
    let below = c.in_ok-below.below in
    let buckets = c.bucket_count-buckets.result in
    let own = c.in_ok-bytes.bytes in
    let number = c.in_ok-paths.ensures.1 ∙ ap (λ (n : ℕ). below * n) (c.from.ensures ∙ c.len.ensures.rows) in
    level-holds kinds rows agg c.args.nodes c.args.each c.in_ok-most_paths.field-0 below c.in_ok-paths.paths buckets own c.loop-child.bytes
    c.in_ok-most_paths.ensures c.in_ok-below.ensures.1 number (c.bucket_count-buckets.ensures kinds rows) c.in_ok-bytes.ensures.exact c.in_ok-bytes.ensures.fits
    (subst (λ (cs : List Agg). ChildrenHoldAtMost kinds rows c.loop-child.bytes own cs buckets below) all c.loop-child.invariant)
