use Rattle.std.proofs.Common.{◌≡◌, ◌-◌}
use Rattle.agg_model.specs.declared.breaker.Which.TheVariants as which
use Rattle.breaker_words.specs.Views.{hold_of}
use Rattle.solo_charges.specs.Alone.{IsAlone}
use Rattle.fitting_laws.specs.Indexes.{index_of}
use Rattle.agg_search.specs.Progressing.{Follows}
use Rattle.agg_search.specs.Reached.{HasReached, HoldsCosts}
use Rattle.agg_search.proofs.TaskRange.{tasks_to}
use Rattle.agg_search.proofs.tasks.run_tasks.Given as goal

abbrev pub invariant-loop-place : goal.invariant-loop-place
invariant-loop-place g l = record {
  alone : IsAlone l.words l.pass;
  same_index : g.T.Tasks.index l.tasks ≡ g.T.Tasks.index l.fn.tasks;
  same_capacity : g.T.Tasks.capacity l.tasks ≡ g.T.Tasks.capacity l.fn.tasks;
  fielddata : hold_of l.pass.view which.Fielddata ≡ hold_of l.fn.pass.view which.Fielddata;
  inflight : hold_of l.pass.view which.Inflight ≡ hold_of l.fn.pass.view which.Inflight;
  reached : HasReached (index_of (g.T.Tasks.index l.fn.tasks)) l.search l.place l.progress;
  held : HoldsCosts l.progress l.pass.view;
  follows : Follows (tasks_to (g.T.Tasks.capacity l.fn.tasks) l.words.limits (index_of (g.T.Tasks.index l.fn.tasks)) l.search l.from (l.place - l.from))
      l.fn.pass.view l.fn.progress (g.T.Tasks.entries l.fn.tasks) l.pass.view l.progress (g.T.Tasks.entries l.tasks);
}
