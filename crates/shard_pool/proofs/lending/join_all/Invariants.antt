use Rattle.std.proofs.Common.{◌≡◌, ◌+◌, ◌++◌, sum_by}
use Rattle.std.specs.Vec.Iter.{into_iter_items}
use Rattle.breaker_words.specs.Passes.{with_view}
use Rattle.shard_pool.proofs.lending.join_all.Given as goal

abbrev pub invariant-loop-task : goal.invariant-loop-task
invariant-loop-task g l = record {
  left : l.yielded ++ into_iter_items l.task-iterator ≡ l.fn.tasks;
  joined : l.pass ≡ with_view l.initial.pass (record l.initial.pass.view { cap = l.initial.pass.view.cap + sum_by (λ t. t.load.pass.view.cap) l.yielded });
}
