use Rattle.answer_laws.proofs.Completing.{only-status_0, whole-plain, whole-quiet}
use Rattle.answer_laws.proofs.laws.a_script_that_is_not_refused_is_answered_to_its_end.Goals as goal

pub returns-clause-status : goal.returns-clause-status
returns-clause-status c = only-status_0

pub returns-clause-rounds : goal.returns-clause-rounds
returns-clause-rounds c = whole-plain

pub returns-clause-answers : goal.returns-clause-answers
returns-clause-answers c = whole-quiet
