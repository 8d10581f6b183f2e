use Rattle.std.proofs.Common.{subst, length}
use Rattle.agg_model.specs.declared.aggregation.Agg.{out-Agg}
use Rattle.agg_evaluation.specs.Cost.{node_cost}
use Rattle.growing_tree.specs.Decoded.{decoded}
use Rattle.growing_tree.specs.Gathered.{rows_at}
use Rattle.growing_tree.specs.GatheredEach.{cost_after, gathered_one}
use Rattle.growing_tree.specs.Readiness.{IsKindReady}
use Rattle.growing_tree.proofs.Levels.{level-ready}
use Rattle.growing_tree.proofs.Rises.{rises-level}
use Rattle.growing_tree.proofs.in_turn.gather_each.Goals as goal

pub take_each-requires-clause-metric : goal.take_each-requires-clause-metric
take_each-requires-clause-metric c =
    subst (IsKindReady c.args.shard.now (out-Agg c.args.agg.now).kind) c.in-Metric.is (level-ready c.args.shard.now c.args.agg.now c.args.ready.now c.requires.ready).kind

pub returns-in_ok-take_each-in-Metric-clause-rises : goal.returns-in_ok-take_each-in-Metric-clause-rises
returns-in_ok-take_each-in-Metric-clause-rises c =
    let shard = c.args.shard.now in
    let old = decoded shard c.args.ready.now c.args.tree.now in
    rises-level (cost_after (gathered_one shard.rows c.args.agg.now) (rows_at shard c.args.rows.now) old) (node_cost old) (length c.args.rows.now) c.args.added.now.items c.in_ok-take_each-in-Metric.ensures.cost
