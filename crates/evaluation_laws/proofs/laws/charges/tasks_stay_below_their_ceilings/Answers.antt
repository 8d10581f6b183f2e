use Rattle.list_laws.proofs.Booleans.{holds}
use Rattle.agg_evaluation.proofs.MadeSearches.{made_globals}
use Rattle.evaluation_laws.proofs.TaskLaws.{twice-peak, twice-cost}
use Rattle.evaluation_laws.proofs.laws.charges.tasks_stay_below_their_ceilings.Goals as goal

pub returns-clause-peak : goal.returns-clause-peak
returns-clause-peak c = λ kinds search all bound made e. twice-peak kinds search all bound (holds _ (made_globals search made)) e

pub returns-clause-answer : goal.returns-clause-answer
returns-clause-answer c = λ kinds search all bound made e. twice-cost kinds search all bound (holds _ (made_globals search made)) e
