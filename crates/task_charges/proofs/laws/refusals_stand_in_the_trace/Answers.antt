use Rattle.task_charges.proofs.Ending.{refused-trace}
use Rattle.task_charges.proofs.laws.refusals_stand_in_the_trace.Goals as goal

pub returns : goal.returns
returns c = λ l v u search all t. refused-trace search all l v u t
