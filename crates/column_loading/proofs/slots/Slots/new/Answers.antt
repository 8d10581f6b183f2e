use Rattle.std.proofs.Common.{sym, ap, subst}
use Rattle.column_loading.specs.Slots.{IsAscending, slot_ids}
use Rattle.column_loading.proofs.Indexed.{ascending-none}
use Rattle.column_loading.proofs.slots.Slots.new.Goals as goal

pub invariant_of-result : goal.invariant_of-result
invariant_of-result c = subst IsAscending (sym (ap slot_ids c.new.ensures)) ascending-none
