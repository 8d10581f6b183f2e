use Rattle.agg_evaluation.proofs.AloneLaws.{whole_node-alone}
use Rattle.list_laws.proofs.Booleans.{holds}
use Rattle.agg_evaluation.proofs.SearchLaws.{whole-alone}
use Rattle.evaluation_laws.proofs.laws.wholes.whole_of_one_is_that_one.Goals as goal

pub returns-clause-nodes : goal.returns-clause-nodes
returns-clause-nodes c = λ agg x e. whole_node-alone agg x (holds _ e)

pub returns-clause-results : goal.returns-clause-results
returns-clause-results c = λ search x e. whole-alone search x (holds _ e)
