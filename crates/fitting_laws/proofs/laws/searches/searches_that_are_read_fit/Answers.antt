use Rattle.fitting_laws.proofs.Searches.{search_fits_of}
use Rattle.fitting_laws.proofs.laws.searches.searches_that_are_read_fit.Goals as goal

pub returns : goal.returns
returns c = search_fits_of
