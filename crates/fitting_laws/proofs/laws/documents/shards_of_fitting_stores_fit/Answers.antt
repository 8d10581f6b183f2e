use Rattle.fitting_laws.proofs.Shards.{shards_given}
use Rattle.fitting_laws.proofs.laws.documents.shards_of_fitting_stores_fit.Goals as goal

pub returns : goal.returns
returns c = shards_given
