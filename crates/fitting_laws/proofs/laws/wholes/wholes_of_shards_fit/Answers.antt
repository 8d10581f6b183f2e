use Rattle.fitting_laws.proofs.Wholes.{wholes_fit}
use Rattle.fitting_laws.proofs.laws.wholes.wholes_of_shards_fit.Goals as goal

pub returns : goal.returns
returns c m search shards paths h chosen = wholes_fit search m paths shards h chosen
