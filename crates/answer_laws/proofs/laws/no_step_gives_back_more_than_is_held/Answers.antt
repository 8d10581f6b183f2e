use Rattle.answer_laws.proofs.GivenBack.{task-covered, merges-covered}
use Rattle.answer_laws.proofs.laws.no_step_gives_back_more_than_is_held.Goals as goal

pub returns-clause-tasks : goal.returns-clause-tasks
returns-clause-tasks c = λ limits search start task paid. task-covered limits search start task paid

pub returns-clause-merges : goal.returns-clause-merges
returns-clause-merges c = λ limits search start results at_request at_parent. merges-covered limits search start results at_request at_parent
