use Rattle.growth_laws.proofs.Paying.{paid-less, paid-more, paid-none, paid-peak, paid-trace, paid-within}
use Rattle.growth_laws.proofs.laws.charges.amounts_are_paid_one_by_one.Goals as goal

pub returns-clause-none : goal.returns-clause-none
returns-clause-none c = paid-none

pub returns-clause-more : goal.returns-clause-more
returns-clause-more c = paid-more

pub returns-clause-less : goal.returns-clause-less
returns-clause-less c = paid-less

pub returns-clause-within : goal.returns-clause-within
returns-clause-within c = paid-within

pub returns-clause-trace : goal.returns-clause-trace
returns-clause-trace c = paid-trace

pub returns-clause-peak : goal.returns-clause-peak
returns-clause-peak c = paid-peak
