-- All computed.
use Rattle.std.proofs.Common.{refl}
use Rattle.date_spec.proofs.Computing.{computing}
use Rattle.date_spec.proofs.laws.the_range_is_the_years_without_their_last_day.Goals as goal

pub returns-clause-least : goal.returns-clause-least
unfolding computing
returns-clause-least c = refl

pub returns-clause-greatest : goal.returns-clause-greatest
unfolding computing
returns-clause-greatest c = refl
