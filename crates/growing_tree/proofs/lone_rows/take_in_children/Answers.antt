use Rattle.std.proofs.Common.{◌≡◌, ◌+◌, ◌<◌, ◌∷◌, [], ◌∙◌, ap, arith, length, get_or}
use Rattle.agg_evaluation.specs.Cost.{node_cost}
use Rattle.agg_evaluation.specs.Rows.{row_of}
use Rattle.growth_laws.specs.Gathering.{gatherer_of}
use Rattle.growing_tree.specs.Decoded.{decoded}
use Rattle.growing_tree.specs.Gathered.{decoders, gatherers, shown_children}
use Rattle.growing_tree.proofs.AllMetrics.{metric-at}
use Rattle.growing_tree.proofs.Children.{child-more, child-cost}
use Rattle.growing_tree.proofs.Steps.{item-at, mapped-at}
use Rattle.growing_tree.proofs.lone_rows.take_in_children.Goals as goal

pub take_in_tree-requires-clause-metric : goal.take_in_tree-requires-clause-metric
take_in_tree-requires-clause-metric c =
    let place = c.loop-place.place in
    let aggs = c.args.aggs.now in
    let a = c.index-as_slice-place.result in
    let below : place < length aggs = omega (arith, c.loop-place-test.true, c.len-place-end.ensures) in
    metric-at aggs place a c.requires.metrics (item-at aggs place a below (c.index-as_slice-place.is ∙ ap (λ xs. get_or xs place a) c.as_slice.ensures))

pub loop-place-preserved : goal.loop-place-preserved
loop-place-preserved c =
    let shard = c.args.shard.now in
    let place = c.loop-place.place in
    let children = c.loop-place.children.items in
    let a = c.index-as_slice-place.result in
    let r = c.index-as_slice-place-in-loop-place.result in
    let ds = decoders shard c.args.ready.now in
    let gs = gatherers shard c.args.aggs.now in
    let below : place < length c.args.aggs.now = omega (arith, c.loop-place-test.true, c.len-place-end.ensures) in
    let within : place < length c.args.ready.now = omega (arith, c.if-place-len.false, c.len.ensures) in
    let there : place < length children = omega (arith, c.if-place-len-2.false, c.len-in-loop-place.ensures, c.loop-place.children.ok) in
    let g_is = mapped-at (gatherer_of shard.rows) c.args.aggs.now place a below (c.index-as_slice-place.is ∙ ap (λ xs. get_or xs place a) c.as_slice.ensures) in
    let d_is = mapped-at (decoded shard) c.args.ready.now place r within (c.index-as_slice-place-in-loop-place.is ∙ ap (λ xs. get_or xs place r) c.as_slice-in-loop-place.ensures) in
    let old_is = item-at children place c.index_mut.result.now there c.index_mut.ensures.value in
    let level : node_cost (decoded shard r c.take_in_tree.new.tree) ≡ node_cost (decoded shard r c.index_mut.result.now) + 0 = (let same = c.in_ok-take_in_tree.ensures.cost in omega arith) in
    let stays = child-cost ds children place (decoded shard r) c.index_mut.result.now c.take_in_tree.new.tree 0 d_is old_is level in
    let before = c.loop-place.invariant.cost in
    (record {
      trees = child-more ds gs (row_of shard.rows c.args.row ∷ []) (shown_children shard c.args.ready.now c.args.children.now.items) children place (decoded shard r) (gatherer_of shard.rows a) c.index_mut.result.now c.take_in_tree.new.tree d_is g_is old_is
          c.loop-place.invariant.trees c.in_ok-take_in_tree.ensures.tree;
      cost = omega arith;
    })
