use Rattle.fitting_laws.proofs.Aparts.{documents_apart}
use Rattle.fitting_laws.proofs.laws.documents.rows_of_fitting_documents_are_apart.Goals as goal

pub returns : goal.returns
returns c = documents_apart
