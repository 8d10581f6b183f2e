-- What a worker's steps between two claims leave as it is.
use Rattle.std.specs.Prelude.{◌≡◌}
use Rattle.arrival_moves.specs.declared.view.View.{View}

-- no claim was made in between, and none was lost
abbrev pub SameClaims : View → View → Type 0
SameClaims v u = (u.left ≡ v.left) × (u.drawn ≡ v.drawn) × (u.ended ≡ v.ended)
