use Rattle.task_charges.proofs.Ending.{done}
use Rattle.task_charges.proofs.laws.paid_tasks_are_done.Goals as goal

pub returns : goal.returns
returns c = λ l v u search all. done search all l v u
