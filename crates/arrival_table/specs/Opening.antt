-- What a table is opened with, and its slots then.
use Rattle.std.specs.Prelude.{◌≡◌, ℕ, ◌+◌, ◌≤◌, ◌<◌, List, map, length}
use mathlib.Core.Option.{some}
use lib.ListN.{get_elem?}
use Rattle.arrival_moves.specs.declared.plan.Plan.{Plan}
use Rattle.arrival_table.specs.declared.cell.Cell.{Cell}
use Rattle.arrival_table.specs.declared.cell.Cell.TheVariants.{Vacant, Load}
use Rattle.arrival_table.specs.declared.opening.Task.{Task}

-- the plan of the tasks
abbrev pub plan_of : {A : Type 0} → List (Task A) → ℕ → ℕ → Plan
plan_of {A} ts searches batch = record { tasks = map (λ (t : Task A). t.search) ts; searches = searches; batch = batch }

-- three slots for each task: the loads of the tasks from the m-th on lie in theirs, and behind the loads all are vacant
pub record IsFilled {A R : Type 0} (m : ℕ) (ts : List (Task A)) (cells : List (Cell A R)) : Type 0 where
  pub size : length cells ≡ length ts + length ts + length ts
  pub loads : (k : ℕ) (t : Task A) → m ≤ k → get_elem? ts k ≡ some t → get_elem? cells k ≡ some (Load t.load)
  pub vacant : (k : ℕ) → length ts ≤ k → k < length ts + length ts + length ts → get_elem? cells k ≡ some Vacant
