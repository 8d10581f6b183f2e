use Rattle.std.proofs.Common.{◌≡◌, ◌+◌, ◌≤◌, []}
use Rattle.arrival_table.specs.Models.{IsOf}
use Rattle.shard_tests.proofs.carried_passes.work.Given as goal

-- between two tasks nothing is in hand, and no claim was lost
abbrev pub invariant-loop-task : goal.invariant-loop-task
invariant-loop-task g l = IsOf l.table l.desk × (l.desk.view.drawn ≤ 1) × (l.desk.view.left + l.desk.view.drawn ≡ l.initial.desk.view.left + l.initial.desk.view.drawn) × (l.desk.view.hand ≡ [])

abbrev pub decreases-loop-task : goal.decreases-loop-task
decreases-loop-task g l = l.desk.view.left
