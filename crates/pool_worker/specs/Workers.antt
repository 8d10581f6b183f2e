-- The desk of a worker, before it works and when it has ended.
use Rattle.std.specs.Prelude.{◌≡◌, ◌≤◌, ◌+◌, [], IsTrue}
use Rattle.arrival_moves.specs.Plans.{task_count}
use Rattle.arrival_table.specs.Models.{ArrivalsModel, DeskModel, IsOf}

-- its claims are enough for all tasks and the one claim that finds none, and it has nothing in hand
pub record IsReady (table : ArrivalsModel) (d : DeskModel) : Type 0 where
  pub of : IsOf table d
  pub drawn : d.view.drawn ≤ task_count table.plan
  pub claims : task_count table.plan + 1 ≤ d.view.left + d.view.drawn
  pub empty : d.view.hand ≡ []

-- it found that there is no task more, lost no claim, and has nothing in hand
pub record HasWorked (table : ArrivalsModel) (old new : DeskModel) : Type 0 where
  pub of : IsOf table new
  pub claims : new.view.left + new.view.drawn ≡ old.view.left + old.view.drawn
  pub ended : IsTrue new.view.ended
  pub empty : new.view.hand ≡ []
