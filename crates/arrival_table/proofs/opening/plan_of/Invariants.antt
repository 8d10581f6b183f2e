use Rattle.std.proofs.Common.{◌≡◌, map, take}
use Rattle.arrival_table.specs.declared.opening.Task.{Task}
use Rattle.arrival_table.proofs.opening.plan_of.Given as goal

abbrev pub invariant-loop-task : goal.invariant-loop-task
invariant-loop-task g l = l.numbers.items ≡ map (λ (t : Task g.row.A.Denot). t.search) (take l.task-index l.tasks)
