use Rattle.agg_evaluation.specs.Whole.{whole_node}
use Rattle.list_laws.proofs.Permutations.{any_order}
use Rattle.agg_evaluation.proofs.UnionLaws.{whole_node-unites}
use Rattle.agg_evaluation.proofs.SwapLaws.{whole_node-swaps}
use Rattle.agg_evaluation.proofs.SearchLaws.{whole-any_order}
use Rattle.evaluation_laws.proofs.laws.wholes.order_of_results_does_not_matter.Goals as goal

pub returns-clause-nodes : goal.returns-clause-nodes
returns-clause-nodes c = λ agg. any_order (whole_node agg) (whole_node-unites agg) (whole_node-swaps agg)

pub returns-clause-results : goal.returns-clause-results
returns-clause-results c = whole-any_order
