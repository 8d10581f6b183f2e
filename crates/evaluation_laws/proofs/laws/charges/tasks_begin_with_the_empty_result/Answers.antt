use Rattle.agg_evaluation.proofs.BeginLaws.{built-begins}
use Rattle.evaluation_laws.proofs.laws.charges.tasks_begin_with_the_empty_result.Goals as goal

pub returns : goal.returns
returns c = built-begins
