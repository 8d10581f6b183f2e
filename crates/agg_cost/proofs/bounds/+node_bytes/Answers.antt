use Rattle.std.proofs.Common.{◌+◌, ◌<◌, List, length, get_or, ◌∙◌, ap, subst, arith}
use Rattle.std.proofs.lemmas.List.Elements.{All-same}
use denote.Param.Weighed.{most}
use Rattle.std.specs.Prelude.{sum_by}
use Rattle.std.proofs.lemmas.List.{take_all}
use Rattle.agg_model.specs.declared.aggregation.Agg.{Agg, out-Agg, size-Agg}
use Rattle.agg_evaluation.specs.Ceiling.{node_bound, path_count}
use Rattle.agg_evaluation.specs.Whole.{shape_of}
use Rattle.agg_cost.specs.Capped.{capped}
use Rattle.agg_cost.specs.Paths.{reached_by}
use Rattle.agg_cost.specs.declared.paths.RowPaths.{RowPaths}
use Rattle.agg_cost.proofs.AggSizes.{children_less, item-most}
use Rattle.agg_cost.proofs.Capping.{alike_capped}
use Rattle.agg_cost.proofs.Conditions.{has-fields}
use Rattle.agg_cost.proofs.Levels.{alike-buckets, bound-counted}
use Rattle.filters_agg.proofs.MadeAggs.{kind-made, child-made}
use Rattle.agg_cost.proofs.bounds.+node_bytes.Goals as goal

pub hand_on-requires-clause-made : goal.hand_on-requires-clause-made
hand_on-requires-clause-made t c = kind-made c.args.shard.now c.args.agg.now c.requires.made

pub own_bytes-bytes-requires : goal.own_bytes-bytes-requires
own_bytes-bytes-requires t c = has-fields c.args.shard.now (out-Agg c.args.agg.now).kind (kind-made c.args.shard.now c.args.agg.now c.requires.made)

pub node_bytes-requires : goal.node_bytes-requires
node_bytes-requires t c =
    let shard = c.args.shard.now in
    let agg = c.args.agg.now in
    let items = c.as_slice-child-items.result.now in
    let i = c.loop-child.child-index in
    let child = c.child-item.result in
    let children = c.as_slice-child-items.ensures in
    let less = item-most items i child c.loop-child-test.true c.child-item.is in
    let whole = ap (most size-Agg) children in
    let deeper = children_less agg in
    let within : i < length (out-Agg agg).children = subst (λ (cs : List Agg). i < length cs) children c.loop-child-test.true in
    let is = c.child-item.is ∙ ap (λ (cs : List Agg). get_or cs i child) children in (
      omega (arith, c.decreases, less, whole, deeper),
      (
        c.requires.built,
        (
          c.requires.apart,
          (
            child-made shard agg i child c.requires.made within is,
            All-same (λ (r : RowPaths). r.row < length shard.rows) c.as_slice-in-loop-child.result.now c.in_ok-handed.handed.items c.as_slice-in-loop-child.ensures.value c.in_ok-handed.ensures.in_range,
          ),
        ),
      ),
    )

pub returns : goal.returns
returns t c =
    let kinds = c.args.shard.now.kinds in
    let rows = c.args.shard.now.rows in
    let agg = c.args.agg.now in
    let k = (out-Agg agg).kind in
    let nodes = c.args.nodes in
    let exact = reached_by rows c.args.reached.now in
    let handed = reached_by rows c.in_ok-handed.handed.items in
    let buckets = c.bucket_count-buckets.result in
    let counted =
    ap capped (c.bucket_count-buckets.ensures kinds rows)
    ∙ (alike_capped _ ∙ alike-buckets kinds rows k (shape_of k) nodes c.path_count.result (path_count handed) (ap capped (c.path_count.ensures rows ∙ ap (λ (ps : List RowPaths). capped (path_count (reached_by rows ps))) c.as_slice.ensures.value) ∙ alike_capped _)) in
    let own = ap capped c.own_bytes-bytes.ensures ∙ alike_capped _ in
    let items = c.as_slice-child-items.result.now in
    let all = take_all c.loop-child.child-index items c.loop-child-test.false ∙ c.as_slice-child-items.ensures in
    c.loop-child.invariant
    ∙ (ap (λ (cs : List Agg). capped (c.own_bytes-bytes.result + sum_by (λ (a : Agg). node_bound kinds rows a buckets handed) cs)) all
    ∙ bound-counted kinds rows agg nodes exact handed buckets c.own_bytes-bytes.result c.in_ok-handed.ensures.paths counted own)
