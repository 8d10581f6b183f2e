-- The data that a lent value stands for: the same that a value of `serde_json` does (RFC 8259).
use Rattle.std.specs.Prelude.{ℕ, List, [], ◌∷◌, map}
use Rattle.std.specs.Borrow.{Bor}
use Rattle.serde_json.specs.Data.{Data, null, boolean, number, string, array, object, Items, Members, no_members, member}
use Rattle.serde_json.specs.View.{number_view, items_of}
use Rattle.lent_json.specs.declared.value.Lent.{Lent, fold-Lent}
use Rattle.lent_json.specs.declared.value.Lent.TheOpen.{Lent-F}

abbrev pub members_of : List (Bor (List ℕ) × Data) → Members
members_of [] = no_members
members_of (m ∷ ms) = member m.0.now m.1 (members_of ms)

-- one level, with each value inside already seen as its data
abbrev pub view_step : Lent-F Data → Data
view_step Lent-F.Null = null
view_step (Lent-F.Bool b) = boolean b
view_step (Lent-F.Number x) = number (number_view x)
view_step (Lent-F.String s) = string s.now
view_step (Lent-F.Array v) = array (items_of v.items)
view_step (Lent-F.Object v) = object (members_of v.items)

abbrev pub view : Lent → Data
view = fold-Lent Data view_step

abbrev pub items_view : List Lent → Items
items_view vs = items_of (map view vs)

abbrev pub members_view : List (Bor (List ℕ) × Lent) → Members
members_view ms = members_of (map (λ m. (m.0, view m.1)) ms)
