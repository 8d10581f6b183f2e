-- What loads and results stand for.
use Rattle.std.specs.Prelude.{ℕ, false, ◌||◌, [], ◌∷◌, ◌++◌}
use Rattle.arrival_moves.specs.declared.label.Label.{Label}
use Rattle.arrival_moves.specs.Lists.{times}

-- no task
abbrev pub no_label : Label
no_label = record { tasks = []; failed = false; skipped = false }

-- the task k alone
abbrev pub task_label : ℕ → Label
task_label k = record { tasks = k ∷ []; failed = false; skipped = false }

-- the tasks of both; it says failed, or skipped, where one of them says it
abbrev pub joined_label : Label → Label → Label
joined_label l m = record { tasks = l.tasks ++ m.tasks; failed = l.failed || m.failed; skipped = l.skipped || m.skipped }

-- how often the task k is in the label
abbrev pub task_times : ℕ → Label → ℕ
task_times k l = times k l.tasks
