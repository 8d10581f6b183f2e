use Rattle.agg_spec.specs.Reduction.{after_batches, begun}
use Rattle.answer_laws.proofs.SearchesHeld.{stands-begun, tasks-stand, batches-stand, last-stands}
use Rattle.answer_laws.proofs.laws.a_search_holds_what_its_results_cost.Goals as goal

pub returns-clause-between_tasks : goal.returns-clause-between_tasks
returns-clause-between_tasks c limits search start parts tasks in_batches paid granted =
    (tasks-stand limits search start.holds (after_batches limits search (begun start) parts) tasks paid
    (batches-stand limits search start.holds (begun start) parts in_batches (stands-begun search start)) granted).held

pub returns-clause-in_the_end : goal.returns-clause-in_the_end
returns-clause-in_the_end c limits search start parts in_batches granted =
    (last-stands limits search start.holds (after_batches limits search (begun start) parts)
    (batches-stand limits search start.holds (begun start) parts in_batches (stands-begun search start)) granted).held
