use Rattle.std.proofs.Common.{take}
use Rattle.column_loading.specs.Forms.{slots_in}
use Rattle.column_loading.specs.Slots.{HasPlaces, slot_ids}
use Rattle.column_loading.proofs.slots.places_of.Given as goal

-- the places of the ids so far
abbrev pub invariant-loop-place : goal.invariant-loop-place
invariant-loop-place l = HasPlaces (take l.place (slot_ids (slots_in l.slots))) l.places
