use Rattle.packed_texts.proofs.Cutting.{no-pieces}
use Rattle.packed_texts.proofs.bytes.PackedBytes.new.Goals as goal

pub invariant_of-result : goal.invariant_of-result
invariant_of-result c = (no-pieces c.new.result.items c.new-2.result.items c.new.ensures.items c.new-2.ensures.items).1

pub returns : goal.returns
returns c = (no-pieces c.new.result.items c.new-2.result.items c.new.ensures.items c.new-2.ensures.items).0
