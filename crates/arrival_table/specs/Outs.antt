-- The slots that are out with desks: each is out with one desk, or at home in the table.
use Rattle.std.specs.Prelude.{◌≡◌, ℕ, List, ◌∷◌, []}
use Rattle.std.specs.List.{sum_by}
use mathlib.Core.Option.{Option, none, some}
use lib.ListN.{get_elem?}
use Rattle.arrival_moves.specs.declared.view.View.{View}
use Rattle.arrival_table.specs.declared.known.Known.{Known}
use Rattle.arrival_moves.specs.Lists.{times}

-- how many times the slot j is out
abbrev pub outs : ℕ → List Known → ℕ
outs j ds = sum_by (λ (d : Known). times j d.out) ds

-- 1 where nothing is at home
abbrev pub is_away : {S : Type 0} → Option S → ℕ
is_away none = 1
is_away (some y) = 0

abbrev pub OutOnce : {S : Type 0} → List (Option S) → List Known → Type 0
OutOnce {S} hs ds = (j : ℕ) (h : Option S) → get_elem? hs j ≡ some h → outs j ds ≡ is_away h

-- what is known after a step at which no slot moves, one comes out, and the only one that was out goes back
abbrev pub now_knows : Known → View → Known
now_knows d v = record d { view = v }

abbrev pub now_has_out : Known → View → ℕ → Known
now_has_out d v j = record { view = v; out = j ∷ d.out }

abbrev pub knows : View → Known
knows v = record { view = v; out = [] }
