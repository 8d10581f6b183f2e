use Rattle.list_laws.proofs.Booleans.{holds}
use Rattle.agg_evaluation.proofs.SearchLaws.{node-neutral, whole-neutral}
use Rattle.evaluation_laws.proofs.laws.wholes.empty_is_neutral.Goals as goal

pub returns-clause-nodes : goal.returns-clause-nodes
returns-clause-nodes c = λ agg x e. node-neutral agg x (holds _ e)

pub returns-clause-results : goal.returns-clause-results
returns-clause-results c = λ search x e. whole-neutral search x (holds _ e)
