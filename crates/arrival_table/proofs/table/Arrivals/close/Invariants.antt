use Rattle.std.proofs.Common.{◌≡◌}
use Rattle.std.specs.Mem.Slots.{slots_items, slots_filled, slots_len}
use Rattle.std.specs.Vec.{vec_capacity}
use Rattle.arrival_table.proofs.Closed.{IsTakenBelow, IsClosing}
use Rattle.arrival_table.proofs.table.Arrivals.close.Given as goal

abbrev pub invariant-loop-slot : goal.invariant-loop-slot
invariant-loop-slot g l = IsTakenBelow l.slot (slots_len l.closed.slots) (slots_filled l.closed.slots) × (slots_items l.closed.slots ≡ slots_items l.initial.closed.slots) × (slots_len l.closed.slots ≡ slots_len l.initial.closed.slots)

abbrev pub invariant-loop-search : goal.invariant-loop-search
invariant-loop-search g l = IsClosing g.R.Labelled.label l.fn.self.plan l.search 0 (slots_items l.closed.slots) (slots_filled l.closed.slots) (slots_len l.closed.slots) l.merged.items (vec_capacity l.merged)

abbrev pub invariant-loop-batch : goal.invariant-loop-batch
invariant-loop-batch g l = IsClosing g.R.Labelled.label l.fn.self.plan l.search l.batch (slots_items l.closed.slots) (slots_filled l.closed.slots) (slots_len l.closed.slots) l.merged.items (vec_capacity l.merged)
