use Rattle.agg_evaluation.proofs.RowsFit.{rows_fit_placed}
use Rattle.fitting_laws.proofs.laws.documents.rows_of_fitting_documents_fit.Goals as goal

pub returns : goal.returns
returns c = rows_fit_placed
