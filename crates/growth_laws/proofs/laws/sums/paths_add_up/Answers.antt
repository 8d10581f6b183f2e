use Rattle.growth_laws.proofs.AddedUp.{handed-add, paths-add}
use Rattle.growth_laws.proofs.laws.sums.paths_add_up.Goals as goal

pub returns-clause-handed : goal.returns-clause-handed
returns-clause-handed c = handed-add

pub returns-clause-count : goal.returns-clause-count
returns-clause-count c = paths-add
