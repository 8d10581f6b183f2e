use Rattle.evaluation_laws.proofs.TraceLaws.{trace-never_negative, trace-total}
use Rattle.evaluation_laws.proofs.laws.charges.traces_come_to_the_cost.Goals as goal

pub returns-clause-never_negative : goal.returns-clause-never_negative
returns-clause-never_negative c = trace-never_negative

pub returns-clause-in_the_end : goal.returns-clause-in_the_end
returns-clause-in_the_end c = trace-total
