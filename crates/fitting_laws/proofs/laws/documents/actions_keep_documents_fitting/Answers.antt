use Rattle.fitting_laws.proofs.Stores.{applied_fits}
use Rattle.fitting_laws.proofs.laws.documents.actions_keep_documents_fitting.Goals as goal

pub returns : goal.returns
returns c = applied_fits
