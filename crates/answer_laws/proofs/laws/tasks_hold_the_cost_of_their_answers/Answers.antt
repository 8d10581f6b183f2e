use Rattle.answer_laws.proofs.SearchesHeld.{task-paid}
use Rattle.answer_laws.proofs.laws.tasks_hold_the_cost_of_their_answers.Goals as goal

pub returns : goal.returns
returns c index search shard = task-paid index search shard
