use Rattle.fitting_laws.proofs.Loads.{loaded_indexed}
use Rattle.fitting_laws.proofs.laws.documents.what_is_loaded_is_an_index.Goals as goal

pub returns : goal.returns
returns c = loaded_indexed
