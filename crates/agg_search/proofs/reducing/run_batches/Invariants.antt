use Rattle.std.proofs.Common.{◌≡◌, ◌*◌, []}
use Rattle.std.specs.Prelude.{min, length}
use Rattle.agg_model.specs.declared.breaker.Which.TheVariants as which
use Rattle.breaker_words.specs.Views.{hold_of}
use Rattle.solo_charges.specs.Alone.{IsAlone}
use Rattle.fitting_laws.specs.Indexes.{index_of}
use Rattle.agg_search.specs.Progressing.{Follows}
use Rattle.agg_search.specs.Reached.{HasReached, HoldsCosts}
use Rattle.agg_search.proofs.Batching.{batches_before}
use Rattle.agg_search.proofs.reducing.run_batches.Given as goal

abbrev pub invariant-loop-number : goal.invariant-loop-number
invariant-loop-number g l = record {
  alone : IsAlone l.words l.pass;
  same_index : g.T.Tasks.index l.tasks ≡ g.T.Tasks.index l.fn.tasks;
  same_capacity : g.T.Tasks.capacity l.tasks ≡ g.T.Tasks.capacity l.fn.tasks;
  fielddata : hold_of l.pass.view which.Fielddata ≡ hold_of l.fn.pass.view which.Fielddata;
  inflight : hold_of l.pass.view which.Inflight ≡ hold_of l.fn.pass.view which.Inflight;
  reached : HasReached (index_of (g.T.Tasks.index l.fn.tasks)) l.search (min (length (g.T.Tasks.index l.fn.tasks).shards) (l.number * l.size)) l.progress;
  merged : l.progress.batch ≡ [];
  held : HoldsCosts l.progress l.pass.view;
  follows : Follows (batches_before (g.T.Tasks.capacity l.fn.tasks) l.words.limits (index_of (g.T.Tasks.index l.fn.tasks)) l.search l.size l.number)
      l.fn.pass.view l.fn.progress (g.T.Tasks.entries l.fn.tasks) l.pass.view l.progress (g.T.Tasks.entries l.tasks);
}
