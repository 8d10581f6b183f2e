use Rattle.std.proofs.Common.{◌≤◌, ◌-◌, length}
use Rattle.agg_evaluation.specs.Rows.{roots}
use Rattle.collect_tree.specs.Phases.{collected_before}
use Rattle.collect_tree.specs.declared.phase.Phase.TheVariants.{Matched}
use Rattle.collect_tree.proofs.Loops.{HasCounted}
use Rattle.collect_tree.proofs.charging.collect_matched.Given as goal

abbrev pub invariant-loop-start : goal.invariant-loop-start
invariant-loop-start l = record {
  counted : HasCounted l.shard l.search l.words l.fn.pass.view (collected_before l.search l.shard.rows Matched l.start) l.pass l.growth l.hits;
  within : l.start ≤ length (roots l.shard.rows);
}

abbrev pub decreases-loop-start : goal.decreases-loop-start
decreases-loop-start l = l.count - l.start
