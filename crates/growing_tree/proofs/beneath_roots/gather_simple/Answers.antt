use Rattle.std.proofs.Common.{subst}
use Rattle.agg_model.specs.declared.aggregation.Agg.{out-Agg}
use Rattle.growing_tree.specs.Decoded.{decoded}
use Rattle.growing_tree.specs.Readiness.{IsKindReady}
use Rattle.growing_tree.proofs.InSteps.{metric-steady}
use Rattle.growing_tree.proofs.Levels.{level-ready}
use Rattle.growing_tree.proofs.beneath_roots.gather_simple.Goals as goal

pub take_each-requires-clause-metric : goal.take_each-requires-clause-metric
take_each-requires-clause-metric c =
    subst (IsKindReady c.args.shard.now (out-Agg c.args.agg.now).kind) c.in-Metric.is (level-ready c.args.shard.now c.args.agg.now c.args.ready.now c.requires.ready).kind

pub returns-in_ok-take_each-in-Metric-clause-steady : goal.returns-in_ok-take_each-in-Metric-clause-steady
returns-in_ok-take_each-in-Metric-clause-steady c =
    metric-steady c.args.shard.now.rows c.args.agg.now (decoded c.args.shard.now c.args.ready.now c.args.tree.now)
    (subst (IsKindReady c.args.shard.now (out-Agg c.args.agg.now).kind) c.in-Metric.is (level-ready c.args.shard.now c.args.agg.now c.args.ready.now c.requires.ready).kind)
