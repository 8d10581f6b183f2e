use Rattle.column_loading.specs.Packed.{routing_in}
use Rattle.column_loading.proofs.Packing.{no-slots}
use Rattle.column_loading.proofs.packed.PackedSlots.new.Goals as goal

pub invariant_of-result : goal.invariant_of-result
invariant_of-result c = (no-slots (routing_in c.new-4.result) c.new.result c.new-2.result c.new-3.result.items c.new.ensures c.new-2.ensures c.new-3.ensures.items).1

pub returns : goal.returns
returns c = (no-slots (routing_in c.new-4.result) c.new.result c.new-2.result c.new-3.result.items c.new.ensures c.new-2.ensures c.new-3.ensures.items).0
