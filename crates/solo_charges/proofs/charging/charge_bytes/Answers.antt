use Rattle.std.proofs.Common.{arith}
use Rattle.solo_charges.proofs.OneCharge.{charge-ends}
use Rattle.solo_charges.proofs.charging.charge_bytes.Goals as goal

pub returns-clause-ends : goal.returns-clause-ends
returns-clause-ends c before r stands =
    charge-ends c.args.words.now.limits before c.make_room.new.pass.view r (c.make_room.ensures.stands before r stands) c.args.child c.args.bytes c.charge.new.pass.view
    c.charge.result c.make_room.ensures.alone.whole (omega arith) c.charge.ensures.ok c.charge.ensures.err
