-- One worker that runs one search at a time, with all charges in their order ('Circuit breaker settings', request and inflight
-- requests).
use Rattle.std.specs.Prelude.{ℕ, ◌*◌, List, [], fold, length, Option, Some, None}
use Rattle.agg_model.specs.declared.breaker.Child.TheVariants.{Request as AtRequest, Inflight as AtInflight}
use Rattle.agg_model.specs.declared.breaker.Tripped.{Tripped}
use Rattle.agg_model.specs.declared.aggregation.Search.{Search}
use Rattle.agg_model.specs.declared.settings.Settings.{Settings}
use Rattle.agg_model.specs.declared.outcome.Answered.{Answered}
use Rattle.agg_model.specs.declared.outcome.Outcome.{Outcome}
use Rattle.agg_model.specs.declared.outcome.Outcome.TheVariants as ended
use Rattle.agg_spec.specs.Index.{Index}
use Rattle.agg_spec.specs.Outcome.{Request, outcome, running_search}
use Rattle.agg_spec.specs.Charges.{Amounts, no_amounts, Run, Step, started, run, charge_of}
use Rattle.agg_spec.specs.Reduction.{Going, begun, reduced, tasks_of}

-- the columns' charge is all that is held before
abbrev pub columns_held : ℕ → Amounts
columns_held columns = record no_amounts { fielddata = columns; parent = columns }

-- the response is charged last
abbrev pub response_steps : Outcome → List Step
response_steps (ended.Response line) = charge_of AtRequest (length line)
response_steps (ended.Refused r) = []
response_steps (ended.Tripped t) = []
response_steps ended.Memory = []

abbrev pub outcome_unless : Option Tripped → Outcome → Outcome
outcome_unless None answer = answer
outcome_unless (Some t) answer = ended.Tripped t

module _ (settings : Settings) (index : Index) where
  -- a body is charged twice its bytes before it is read
  abbrev pub body_charged : Run → Request → Run
  body_charged start request = run settings.limits start (charge_of AtInflight (2 * request.bytes))

  -- a body that is refused, or a search that is too wide, has no task
  abbrev pub searched : Run → Option Search → Going
  searched start None = begun start
  searched start (Some search) = reduced settings.limits search settings.batch start (tasks_of index search)

  abbrev pub outcome_with : Request → Going → Outcome
  outcome_with request going = outcome index settings.max_buckets request going.failures

  abbrev pub responded : Request → Going → Going
  responded request going = record going { run = run settings.limits going.run (response_steps (outcome_with request going)) }

  -- a request with all its charges, up to the refused one that ends it
  abbrev pub solo_run : Run → Request → Going
  solo_run start request = responded request (searched (body_charged start request) (running_search index settings.max_buckets request))

  abbrev pub solo_answer : Run → Request → Answered
  solo_answer start request =
      let going = solo_run start request in
      record { outcome = outcome_unless going.run.refused (outcome_with request going); failures = going.failures }

  -- at the end of a request all that it holds is given back
  abbrev pub after_request : Run → Request → Run
  after_request start request = record (solo_run start request).run { holds = start.holds; refused = None }

  -- the requests one after another: what they are granted and refused together
  abbrev pub after_requests : Run → List Request → Run
  after_requests start requests = fold after_request start requests

-- a worker that has answered nothing since the columns were charged
abbrev pub idle : ℕ → Run
idle columns = started (columns_held columns)
