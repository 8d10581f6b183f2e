use Rattle.list_laws.proofs.Booleans.{holds}
use Rattle.agg_evaluation.proofs.MadeSearches.{made_globals}
use Rattle.growth_laws.proofs.Halves.{twice-tree}
use Rattle.growth_laws.proofs.laws.charges.each_tree_is_below_half_the_ceiling.Goals as goal

pub returns : goal.returns
returns c = λ kinds search all bound n made e. twice-tree kinds search all bound n (holds _ (made_globals search made)) e
