-- The tasks of one search, one after another, and the merges of their results in batches ('Search API', batched reduce size and
-- `allow_partial_search_results`; 'Circuit breaker settings', request).
use Rattle.std.specs.Prelude.{ℕ, ℤ, pos, negsuc, suc, ◌+◌, ◌-◌, ◌*◌, ◌/◌, Bool, true, false, List, [], ◌∷◌, ◌++◌, map, flat_map, fold, length, take, drop, sum, Option, Some, None}
use Rattle.std.specs.List.{range_with_len}
use Rattle.agg_model.specs.declared.breaker.Child.TheVariants.{Request as AtRequest}
use Rattle.agg_model.specs.declared.breaker.Limits.{Limits}
use Rattle.agg_model.specs.declared.breaker.Tripped.{Tripped}
use Rattle.agg_model.specs.declared.partial.Partial.{Partial}
use Rattle.agg_model.specs.declared.aggregation.Search.{Search}
use Rattle.agg_model.specs.declared.outcome.Failure.{Failure}
use Rattle.agg_evaluation.specs.Shard.{shard_answer}
use Rattle.agg_evaluation.specs.Whole.{whole}
use Rattle.agg_evaluation.specs.Cost.{cost}
use Rattle.agg_evaluation.specs.Trace.{trace}
use Rattle.agg_spec.specs.Index.{Index, rows_in, shard_numbers}
use Rattle.agg_spec.specs.Charges.{Step, Run, run, charge_of, return_of}

-- the work on one shard: what it charges and gives back, in order, and its answer
pub record Task : Type 0 where
  pub shard : ℕ
  pub amounts : List ℤ
  pub answer : Partial

abbrev pub task_of : Index → Search → ℕ → Task
task_of index search shard = record { shard = shard; amounts = trace search (rows_in index shard); answer = shard_answer search (rows_in index shard) }

abbrev pub tasks_of : Index → Search → List Task
tasks_of index search = map (task_of index search) (shard_numbers index)

-- a positive amount is charged, and a negative one given back
abbrev pub amount_step : ℤ → List Step
amount_step (pos n) = charge_of AtRequest n
amount_step (negsuc n) = return_of AtRequest (suc n)

abbrev pub task_steps : Task → List Step
task_steps task = flat_map amount_step task.amounts

-- in batches of the size, the last one maybe shorter
abbrev pub batches : {A : Type 0} → ℕ → List A → List (List A)
batches size items = map (λ i. take size (drop (i * size) items)) (range_with_len 0 ((length items + size - 1) / size))

-- A search in the middle of its tasks.
pub record Going : Type 0 where
  pub run : Run
  -- the results of the batch that is open
  pub batch : List Partial
  -- the results of the batches before it
  pub results : List Partial
  pub failures : List Failure

abbrev pub begun : Run → Going
begun start = record { run = start; batch = []; results = []; failures = [] }

-- a refused charge that ended the search is the last thing
abbrev pub unless_ended : Option Tripped → Going → Going → Going
unless_ended None next going = next
unless_ended (Some t) next going = going

module _ (limits : Limits) (search : Search) where
  -- A refused charge of a task ends the search. Where it allows partial results, what the task holds is given back instead, and
  -- the shard is left out.
  abbrev pub task_refused : Bool → ℕ → Tripped → Run → Going → Going
  task_refused false shard t after going = record going { run = after }
  task_refused true shard t after going = record going {
    run = record after { holds = going.run.holds; refused = None };
    failures = going.failures ++ record { shard = shard; tripped = t } ∷ [];
  }

  -- a task that came to its end, or to a refused charge
  abbrev pub task_ended : Option Tripped → Task → Run → Going → Going
  task_ended None task after going = record going { run = after; batch = going.batch ++ task.answer ∷ [] }
  task_ended (Some t) task after going = task_refused search.partial task.shard t after going

  abbrev pub after_task : Going → Task → Going
  after_task going task =
      let after = run limits going.run (task_steps task) in
      unless_ended going.run.refused (task_ended after.refused task after going) going

  -- one result stays as it is, several become one, and none is none
  abbrev pub merged : List Partial → List Partial
  merged (p ∷ q ∷ rest) = whole search (p ∷ q ∷ rest) ∷ []
  merged parts = parts

  -- Two or more results are merged: their costs are charged once more, and afterwards the cost of the result is held.
  abbrev pub merge_steps : List Partial → List Step
  merge_steps (p ∷ q ∷ rest) =
      let parts = p ∷ q ∷ rest in
      let costs = sum (map cost parts) in
      charge_of AtRequest costs ++ return_of AtRequest (2 * costs - cost (whole search parts))
  merge_steps parts = []

  -- the batch is full, or the last task has ended
  abbrev pub after_batch : Going → Going
  after_batch going =
      unless_ended going.run.refused
      (record going { run = run limits going.run (merge_steps going.batch); batch = []; results = going.results ++ merged going.batch }) going

  abbrev pub after_tasks : Going → List Task → Going
  after_tasks going tasks = fold after_task going tasks

  abbrev pub after_batches : Going → List (List Task) → Going
  after_batches going parts = fold (λ g tasks. after_batch (after_tasks g tasks)) going parts

  -- the results of the batches become one
  abbrev pub after_last : Going → Going
  after_last going =
      unless_ended going.run.refused (record going { run = run limits going.run (merge_steps going.results); results = merged going.results }) going

  -- all tasks in batches of the size, and all merges
  abbrev pub reduced : ℕ → Run → List Task → Going
  reduced size start tasks = after_last (after_batches (begun start) (batches size tasks))
