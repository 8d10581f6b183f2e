use Rattle.std.proofs.Common.{◌≡◌, ◌+◌, ◌≤◌, ◌++◌, length}
use Rattle.std.specs.Vec.{vec_capacity}
use Rattle.std.specs.Vec.Iter.{into_iter_items}
use Rattle.shard_pool.proofs.Returns.{AreSettled}
use Rattle.shard_pool.proofs.settling.settle_all.Given as goal

-- those that are settled, and room for those that are not
abbrev pub invariant-loop-one : goal.invariant-loop-one
invariant-loop-one l = record {
  next : (goal.iterator-loop-one).can_next l.one-iterator;
  finite : (goal.iterator-loop-one).is_finite l.one-iterator;
  settled : AreSettled l.words l.initial.pass.view l.pass l.yielded l.ends.items;
  rest : l.yielded ++ into_iter_items l.one-iterator ≡ l.fn.gathered.items;
  room : length l.ends.items + length (into_iter_items l.one-iterator) ≤ vec_capacity l.ends;
}
