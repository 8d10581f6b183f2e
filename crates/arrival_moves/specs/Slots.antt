-- What a slot of the table holds.
use Rattle.std.specs.Prelude.{ℕ, List}
use Rattle.std.specs.List.{sum_by}
use Rattle.arrival_moves.specs.declared.label.Label.{Label}

-- a slot that nothing was put into, one that a desk is at to put something, a full one, and one that was emptied
pub data Slot : Type 0 where
  fresh : Slot
  reached : Slot
  holds : Label → Slot
  emptied : Slot

-- a number of what the slot holds
abbrev pub in_slot : (Label → ℕ) → Slot → ℕ
in_slot f (holds l) = f l
in_slot f _ = 0

-- the sum of that number over slots
abbrev pub in_slots : (Label → ℕ) → List Slot → ℕ
in_slots f xs = sum_by (in_slot f) xs

-- 1 where something was put into the slot
abbrev pub was_put : Slot → ℕ
was_put (holds l) = 1
was_put emptied = 1
was_put _ = 0
