-- What a clause sees of the table of arrivals and of a desk.
use Rattle.std.specs.Prelude.{◌≡◌}
use Rattle.atomic_table.specs.Seated.{TableId}
use Rattle.arrival_moves.specs.declared.plan.Plan.{Plan}
use Rattle.arrival_moves.specs.declared.view.View.{View}

pub record ArrivalsModel : Type 0 where
  pub table : TableId
  pub plan : Plan

pub record DeskModel : Type 0 where
  pub table : TableId
  pub view : View

abbrev pub IsOf : ArrivalsModel → DeskModel → Type 0
IsOf a d = d.table ≡ a.table

abbrev pub with_view : DeskModel → View → DeskModel
with_view d v = record { table = d.table; view = v }
