use Rattle.fitting_laws.proofs.NextPages.{next_fits}
use Rattle.fitting_laws.proofs.Pages.{search_next}
use Rattle.fitting_laws.proofs.laws.searches.next_pages_fit.Goals as goal

pub returns-clause-behind : goal.returns-clause-behind
returns-clause-behind c m s key = search_next m key s

pub returns-clause-next : goal.returns-clause-next
returns-clause-next c = next_fits
