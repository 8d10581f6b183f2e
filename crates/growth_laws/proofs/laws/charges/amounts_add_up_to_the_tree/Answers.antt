use Rattle.std.proofs.Common.{refl}
use Rattle.growth_laws.proofs.Sums.{amounts-count, amounts-lead, amounts-total}
use Rattle.growth_laws.proofs.laws.charges.amounts_add_up_to_the_tree.Goals as goal

pub returns-clause-trace : goal.returns-clause-trace
returns-clause-trace c = λ search all. refl

pub returns-clause-count : goal.returns-clause-count
returns-clause-count c = amounts-count

pub returns-clause-tree : goal.returns-clause-tree
returns-clause-tree c = amounts-lead

pub returns-clause-answer : goal.returns-clause-answer
returns-clause-answer c = amounts-total
