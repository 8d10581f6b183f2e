use Rattle.std.proofs.Common.{◌≡◌, ◌+◌, ◌≤◌, drop}
use Rattle.arrival_moves.specs.Lists.{times}
use Rattle.shard_tests.proofs.desks.count_of.Given as goal

-- those so far, and then those that are left
abbrev pub invariant-loop-one : goal.invariant-loop-one
invariant-loop-one l = record {
  rest : l.count + times l.search (drop l.one-index l.plan.tasks) ≡ times l.search l.plan.tasks;
  few : l.count ≤ l.one-index;
}
