-- A clock is told by its length and its shape.
use Rattle.std.proofs.Common.{◌≡◌, ◌∙◌, sym, length, true, false}
use Rattle.date_spec.specs.DateTexts.{is_clock, may_leave_off}
use Rattle.date_text.proofs.clocks.is_clock.Goals as goal

pub returns-then-may_leave_off : goal.returns-then-may_leave_off
unfolding is_clock
returns-then-may_leave_off c =
    let ends : may_leave_off (length c.args.clock.now) (length c.args.offset.now) ≡ true = sym c.may_leave_off.ensures.value ∙ c.if-may_leave_off.true in
    rw ends c.has_shape.ensures.shape

pub returns-else-may_leave_off : goal.returns-else-may_leave_off
unfolding is_clock
returns-else-may_leave_off c =
    let ends : may_leave_off (length c.args.clock.now) (length c.args.offset.now) ≡ false = sym c.may_leave_off.ensures.value ∙ c.if-may_leave_off.false in
    rw ends c.if-may_leave_off.false
