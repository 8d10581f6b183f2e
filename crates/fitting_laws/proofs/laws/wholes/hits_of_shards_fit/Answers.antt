use Rattle.fitting_laws.proofs.Hits.{hits_fit}
use Rattle.fitting_laws.proofs.laws.wholes.hits_of_shards_fit.Goals as goal

pub returns : goal.returns
returns c = hits_fit
