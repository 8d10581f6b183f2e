use Rattle.agg_evaluation.proofs.AloneLaws.{whole_node-empty}
use Rattle.agg_evaluation.proofs.SearchLaws.{whole-empty}
use Rattle.evaluation_laws.proofs.laws.wholes.whole_of_none_is_empty.Goals as goal

pub returns-clause-nodes : goal.returns-clause-nodes
returns-clause-nodes c = whole_node-empty

pub returns-clause-results : goal.returns-clause-results
returns-clause-results c = whole-empty
