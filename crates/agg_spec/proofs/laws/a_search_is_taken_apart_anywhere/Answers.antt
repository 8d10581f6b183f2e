use Rattle.agg_spec.proofs.SoloLaws.{tasks-append, batches-append}
use Rattle.agg_spec.proofs.laws.a_search_is_taken_apart_anywhere.Goals as goal

pub returns-clause-tasks : goal.returns-clause-tasks
returns-clause-tasks c = tasks-append

pub returns-clause-batches : goal.returns-clause-batches
returns-clause-batches c = batches-append
