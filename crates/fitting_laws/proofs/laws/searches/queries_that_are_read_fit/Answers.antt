use Rattle.fitting_laws.proofs.Queries.{query_from_fits}
use Rattle.agg_evaluation.proofs.QueriesFit.{fits_below}
use Rattle.fitting_laws.proofs.laws.searches.queries_that_are_read_fit.Goals as goal

pub returns-clause-read : goal.returns-clause-read
returns-clause-read c = query_from_fits

pub returns-clause-below : goal.returns-clause-below
returns-clause-below c = fits_below
