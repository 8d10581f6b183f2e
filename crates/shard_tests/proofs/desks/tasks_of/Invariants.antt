use Rattle.std.proofs.Common.{◌≡◌, ℕ, length, map, take}
use mathlib.Core.Option.{some}
use lib.ListN.{get_elem?}
use Rattle.arrival_moves.specs.Plans.{search_of}
use Rattle.arrival_table.specs.declared.opening.Task.{Task}
use Rattle.shard_tests.specs.declared.desks.Numbered.{Numbered}
use Rattle.shard_tests.proofs.desks.tasks_of.Given as goal

abbrev pub invariant-loop-place : goal.invariant-loop-place
invariant-loop-place l = record {
  size : length l.tasks ≡ l.place;
  plan : map (λ (t : Task Numbered). t.search) l.tasks ≡ take l.place l.plan.tasks;
  loads : (k : ℕ) (t : Task Numbered) → get_elem? l.tasks k ≡ some t → (t.search ≡ search_of l.plan k) × (t.load.task ≡ k);
}
