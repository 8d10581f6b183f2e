use Rattle.fitting_laws.proofs.Walking.{document_fits}
use Rattle.fitting_laws.proofs.laws.documents.documents_that_are_read_fit.Goals as goal

pub returns : goal.returns
returns c = document_fits
