use Rattle.std.proofs.Common.{◌≡◌, ◌+◌}
use Rattle.agg_evaluation.specs.Cost.{cost}
use Rattle.agg_evaluation.specs.Trace.{built, task_overhead}
use Rattle.breaker_words.specs.Passes.{IsOf}
use Rattle.breaker_words.specs.declared.trial.Trial.TheVariants.{Rest}
use Rattle.growth_laws.specs.Amounts.{amounts}
use Rattle.collect_tree.specs.Blocks.{before_root}
use Rattle.collect_tree.specs.Room.{HoldsTask}
use Rattle.collect_tree.specs.Stops.{PaysOn}
use Rattle.collect_tree.proofs.charging.charge_block.Given as goal

abbrev pub invariant-loop-place : goal.invariant-loop-place
invariant-loop-place l = record {
  of : IsOf l.words l.pass;
  rest : l.pass.view.trial ≡ Rest;
  cap : l.pass.view.cap ≡ l.fn.pass.view.cap;
  held_is : l.held ≡ task_overhead + cost (built l.search l.shard.rows (before_root l.search l.shard.rows l.fn.phase l.fn.first + l.place));
  holds : HoldsTask l.shard l.search l.held l.pass.view;
  paid : PaysOn l.words.limits (amounts l.search l.shard.rows) (before_root l.search l.shard.rows l.fn.phase l.fn.first) (before_root l.search l.shard.rows l.fn.phase l.fn.first + l.place) l.fn.pass.view l.pass.view;
}
