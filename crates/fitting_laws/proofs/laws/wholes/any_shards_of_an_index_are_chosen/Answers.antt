use Rattle.fitting_laws.proofs.Chosen.{any_chosen, index_chosen}
use Rattle.fitting_laws.proofs.laws.wholes.any_shards_of_an_index_are_chosen.Goals as goal

pub returns-clause-index : goal.returns-clause-index
returns-clause-index c = index_chosen

pub returns-clause-any : goal.returns-clause-any
returns-clause-any c = any_chosen
