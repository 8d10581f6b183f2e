use Rattle.std.proofs.Common.{◌/◌, ◌∙◌, length}
use Rattle.std.proofs.lemmas.Bool.{le-ltb}
use Rattle.column_query.proofs.Marking.{bit-tests, bit-past}
use Rattle.column_query.proofs.marks.has_bit.Goals as goal

pub returns-then-word-bits : goal.returns-then-word-bits
returns-then-word-bits c = bit-tests c.args.bits.now c.args.place

pub returns-else-word-bits : goal.returns-else-word-bits
returns-else-word-bits c = le-ltb (c.args.place / 64) (length c.args.bits.now) c.if-word-bits.false ∙ bit-past c.args.bits.now c.args.place c.if-word-bits.false
