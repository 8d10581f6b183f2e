-- All computed.
use Rattle.std.proofs.Common.{refl}
use Rattle.date_spec.proofs.Computing.{computing}
use Rattle.date_spec.proofs.laws.the_calendar_is_the_gregorian_one.Goals as goal

pub returns-clause-epoch : goal.returns-clause-epoch
unfolding computing
returns-clause-epoch c = refl

pub returns-clause-first : goal.returns-clause-first
unfolding computing
returns-clause-first c = refl

pub returns-clause-leap_days : goal.returns-clause-leap_days
unfolding computing
returns-clause-leap_days c = refl

pub returns-clause-cycle : goal.returns-clause-cycle
unfolding computing
returns-clause-cycle c = refl

pub returns-clause-months : goal.returns-clause-months
unfolding computing
returns-clause-months c = refl
