use Rattle.task_charges.proofs.Ending.{most-amounts, most-trace}
use Rattle.task_charges.proofs.laws.no_task_holds_more_than_its_peak.Goals as goal

pub returns-clause-amounts : goal.returns-clause-amounts
returns-clause-amounts c = most-amounts

pub returns-clause-trace : goal.returns-clause-trace
returns-clause-trace c = most-trace
