use Rattle.std.proofs.Common.{sym, ◌∙◌, ap, arith, ◌≡◌, ◌<◌, ◌+◌, length, get_or}
use Rattle.agg_evaluation.specs.Cost.{node_cost}
use Rattle.agg_evaluation.specs.Rows.{row_of}
use Rattle.growing_tree.specs.Decoded.{decoded}
use Rattle.growing_tree.specs.Gathered.{rows_at}
use Rattle.growing_tree.specs.GatheredEach.{cost_after, gathered_one}
use Rattle.growing_tree.proofs.Each.{after-all, after-next}
use Rattle.growing_tree.proofs.Rises.{level-more}
use Rattle.growing_tree.proofs.in_turn.take_each.Goals as goal

pub loop-place-preserved : goal.loop-place-preserved
loop-place-preserved c =
    let shard = c.args.shard.now in
    let a = c.args.agg.now in
    let r = c.args.ready.now in
    let step = gathered_one shard.rows a in
    let row_at = row_of shard.rows in
    let rows = c.args.rows.now in
    let i = c.loop-place.place in
    let old = decoded shard r c.args.tree.now in
    let below : i < length rows = omega (arith, c.loop-place-test.true) in
    let before = c.loop-place.invariant.tree in
    let after = c.in_ok-take_in_tree.ensures.tree ∙ ap (step (row_at (get_or rows i 0))) before ∙ sym (after-next step row_at rows i old below) in
    let here : cost_after step (rows_at shard rows) old (i + 1) ≡ node_cost old = sym (ap node_cost after) ∙ c.in_ok-take_in_tree.ensures.cost ∙ ap node_cost before ∙ c.loop-place.invariant.cost i (omega arith) in
    record {
      tree = after;
      cost = level-more (cost_after step (rows_at shard rows) old) (node_cost old) i c.loop-place.invariant.cost here;
    }

pub returns-clause-tree : goal.returns-clause-tree
returns-clause-tree c =
    let shard = c.args.shard.now in
    c.loop-place.invariant.tree ∙ after-all (gathered_one shard.rows c.args.agg.now) (row_of shard.rows) c.args.rows.now c.loop-place.place (decoded shard c.args.ready.now c.args.tree.now) (omega (arith, c.loop-place-test.false))

pub returns-clause-cost : goal.returns-clause-cost
returns-clause-cost c = λ n few. c.loop-place.invariant.cost n (omega (arith, few, c.loop-place-test.false))
