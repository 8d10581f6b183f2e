use Rattle.agg_evaluation.proofs.UnionLaws.{whole_node-unites}
use Rattle.agg_evaluation.proofs.SearchLaws.{whole-unites}
use Rattle.evaluation_laws.proofs.laws.wholes.whole_of_wholes_is_the_whole_of_all.Goals as goal

pub returns-clause-nodes : goal.returns-clause-nodes
returns-clause-nodes c = whole_node-unites

pub returns-clause-results : goal.returns-clause-results
returns-clause-results c = whole-unites
