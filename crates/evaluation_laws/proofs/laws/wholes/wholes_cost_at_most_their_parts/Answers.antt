use Rattle.std.proofs.Common.{arith}
use Rattle.std.specs.Prelude.{◌∷◌, ◌<◌, length}
use Rattle.evaluation_laws.proofs.CostLaws.{whole_node-saves}
use Rattle.list_laws.proofs.Booleans.{holds}
use Rattle.evaluation_laws.proofs.SearchCosts.{whole-saves}
use Rattle.evaluation_laws.proofs.laws.wholes.wholes_cost_at_most_their_parts.Goals as goal

pub returns-clause-nodes : goal.returns-clause-nodes
returns-clause-nodes c = λ agg x xs e. whole_node-saves agg (x ∷ xs) (let some : 0 < length (x ∷ xs) = omega arith in some) (holds _ e)

pub returns-clause-results : goal.returns-clause-results
returns-clause-results c = λ search x xs e. whole-saves search x xs (holds _ e)
