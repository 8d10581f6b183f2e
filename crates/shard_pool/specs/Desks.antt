-- The desks of workers that have ended.
use Rattle.std.specs.Prelude.{◌≡◌, ℕ, ◌+◌, [], IsTrue}
use Rattle.arrival_table.specs.Models.{ArrivalsModel, DeskModel, IsOf}

-- the desk found that there is no task more, and has nothing in hand
pub record HasEnded (table : ArrivalsModel) (d : DeskModel) : Type 0 where
  pub of : IsOf table d
  pub ended : IsTrue d.view.ended
  pub empty : d.view.hand ≡ []

-- the claims that it made and may still make
abbrev pub claims_of : DeskModel → ℕ
claims_of d = d.view.left + d.view.drawn
