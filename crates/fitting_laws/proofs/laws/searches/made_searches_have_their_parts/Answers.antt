use Rattle.agg_evaluation.proofs.MadeSearches.{search_intervals, search_placed}
use Rattle.fitting_laws.proofs.laws.searches.made_searches_have_their_parts.Goals as goal

pub returns-clause-intervals : goal.returns-clause-intervals
returns-clause-intervals c = search_intervals

pub returns-clause-globals : goal.returns-clause-globals
returns-clause-globals c = search_placed
