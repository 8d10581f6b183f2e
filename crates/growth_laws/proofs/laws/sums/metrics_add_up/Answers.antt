use Rattle.growth_laws.proofs.AddedUp.{metrics-add}
use Rattle.growth_laws.proofs.laws.sums.metrics_add_up.Goals as goal

pub returns : goal.returns
returns c = metrics-add
