use Rattle.agg_evaluation.proofs.AloneLaws.{whole_node-is_tree}
use Rattle.list_laws.proofs.Booleans.{true_is}
use Rattle.agg_evaluation.proofs.SearchLaws.{whole-is_result}
use Rattle.evaluation_laws.proofs.laws.wholes.wholes_are_results.Goals as goal

pub returns-clause-nodes : goal.returns-clause-nodes
returns-clause-nodes c = λ agg xs. true_is _ (whole_node-is_tree agg xs)

pub returns-clause-results : goal.returns-clause-results
returns-clause-results c = λ search xs. true_is _ (whole-is_result search xs)
