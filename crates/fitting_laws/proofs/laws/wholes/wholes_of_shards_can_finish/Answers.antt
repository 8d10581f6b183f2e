use Rattle.fitting_laws.proofs.WholesFinish.{wholes_finish}
use Rattle.fitting_laws.proofs.laws.wholes.wholes_of_shards_can_finish.Goals as goal

pub returns : goal.returns
returns c m search shards paths h chosen = wholes_finish search m paths shards h chosen
