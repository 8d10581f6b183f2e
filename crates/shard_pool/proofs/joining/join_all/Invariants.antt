use Rattle.std.proofs.Common.{◌≡◌, ◌++◌}
use Rattle.std.specs.Vec.Iter.{into_iter_items}
use Rattle.shard_pool.specs.Results.{results_of}
use Rattle.shard_pool.proofs.Taking.{AreTaken}
use Rattle.shard_pool.proofs.joining.join_all.Given as goal

-- the results that were joined, and those that are still to be
abbrev pub invariant-loop-merged : goal.invariant-loop-merged
invariant-loop-merged g l = record {
  next : (goal.iterator-loop-merged g).can_next l.merged-iterator;
  finite : (goal.iterator-loop-merged g).is_finite l.merged-iterator;
  taken : AreTaken g.J.PoolCall.pool l.initial.pass.view (results_of l.yielded (λ o. record { work = o.work; pass = o.pass })) l.pass l.gathered.items;
  rest : l.yielded ++ into_iter_items l.merged-iterator ≡ l.fn.results;
}
