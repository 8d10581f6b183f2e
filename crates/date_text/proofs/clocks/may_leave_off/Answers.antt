-- Each length by its arm.
use Rattle.std.proofs.Common.{arith}
use Rattle.std.proofs.lemmas.Bool.Decides.{nat_tests}
use Rattle.date_spec.specs.DateTexts.{may_leave_off}
use Rattle.date_text.proofs.clocks.may_leave_off.Goals as goal

pub returns-in-4-clause-value : goal.returns-in-4-clause-value
unfolding may_leave_off
returns-in-4-clause-value c = grind (arith, nat_tests)

pub returns-in_default-clause-value : goal.returns-in_default-clause-value
unfolding may_leave_off
returns-in_default-clause-value c = grind (arith, nat_tests)

pub returns-in_default-2-clause-value : goal.returns-in_default-2-clause-value
unfolding may_leave_off
returns-in_default-2-clause-value c = grind (arith, nat_tests)

pub returns-in-16-clause-value : goal.returns-in-16-clause-value
unfolding may_leave_off
returns-in-16-clause-value c = grind (arith, nat_tests)

pub returns-in-16-2-clause-value : goal.returns-in-16-2-clause-value
unfolding may_leave_off
returns-in-16-2-clause-value c = grind (arith, nat_tests)
