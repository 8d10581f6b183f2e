use Rattle.std.proofs.Common.{◌+◌, ◌∷◌, [], ◌∙◌, sym, ap, arith}
use Rattle.agg_model.specs.declared.aggregation.Agg.{out-Agg}
use Rattle.agg_evaluation.specs.Cost.{node_cost}
use Rattle.growth_laws.specs.Gathering.{counted}
use Rattle.growing_tree.specs.Decoded.{decoded}
use Rattle.agg_evaluation.specs.Rows.{row_of}
use Rattle.growing_tree.proofs.Counting.{handed-values, metric-cost, metric-counted}
use Rattle.growing_tree.proofs.Levels.{gathered-is}
use Rattle.growing_tree.proofs.lone_rows.take_in_tree.Goals as goal

pub returns-clause-tree : goal.returns-clause-tree
returns-clause-tree c =
    let shard = c.args.shard.now in
    let a = c.args.agg.now in
    let r = c.args.ready.now in
    let rows = row_of shard.rows c.args.row ∷ [] in
    metric-counted shard a r rows c.tree.inside.level c.take_one.new.level c.in_ok-take_one.ensures.values
    ∙ ap (λ n. counted shard.rows a rows (decoded shard r n)) c.tree.view_is
    ∙ sym (gathered-is shard.rows a rows rows (decoded shard r c.args.tree.now) (handed-values shard.rows (out-Agg a).kind rows c.requires.metric))

pub returns-clause-cost : goal.returns-clause-cost
returns-clause-cost c =
    let shard = c.args.shard.now in
    let a = c.args.agg.now in
    let r = c.args.ready.now in
    let same = metric-cost shard a r (row_of shard.rows c.args.row ∷ []) c.tree.inside.level c.take_one.new.level c.in_ok-take_one.ensures.values ∙ ap (λ n. node_cost (decoded shard r n) + 0) c.tree.view_is in
    omega arith
