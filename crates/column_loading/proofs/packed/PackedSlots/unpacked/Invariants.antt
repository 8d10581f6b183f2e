use Rattle.std.proofs.Common.{◌≡◌, take}
use Rattle.column_loading.proofs.packed.PackedSlots.unpacked.Given as goal

-- the slots so far
abbrev pub invariant-loop-place : goal.invariant-loop-place
invariant-loop-place l = l.slots.items ≡ take l.place l.self
