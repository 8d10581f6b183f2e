use Rattle.std.proofs.Common.{◌≤◌, ◌-◌, length}
use Rattle.agg_evaluation.specs.Rows.{roots}
use Rattle.agg_evaluation.specs.Trace.{matched}
use Rattle.collect_tree.specs.Phases.{collected_before}
use Rattle.collect_tree.specs.declared.phase.Phase.TheVariants.{Global}
use Rattle.collect_tree.proofs.Loops.{HasCome}
use Rattle.collect_tree.proofs.charging.collect_globals.Given as goal

abbrev pub invariant-loop-start : goal.invariant-loop-start
invariant-loop-start l = record {
  come : HasCome l.shard l.search l.words l.fn.pass.view (length (matched l.search l.shard.rows)) (collected_before l.search l.shard.rows Global l.start) l.pass l.growth;
  within : l.start ≤ length (roots l.shard.rows);
}

abbrev pub decreases-loop-start : goal.decreases-loop-start
decreases-loop-start l = l.count - l.start
