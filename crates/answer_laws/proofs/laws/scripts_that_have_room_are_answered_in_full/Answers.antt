use Rattle.answer_laws.proofs.Completing.{answers-plain, answers-quiet, lines-alike}
use Rattle.answer_laws.proofs.laws.scripts_that_have_room_are_answered_in_full.Goals as goal

pub returns-clause-rounds : goal.returns-clause-rounds
returns-clause-rounds c = answers-plain

pub returns-clause-answers : goal.returns-clause-answers
returns-clause-answers c = answers-quiet

pub returns-clause-alike : goal.returns-clause-alike
returns-clause-alike c = lines-alike
