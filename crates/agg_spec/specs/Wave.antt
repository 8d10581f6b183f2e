-- What may be answered when several searches run side by side with many workers: the answers of a wave ('Multi search API';
-- 'Circuit breaker settings'). Their charges may meet at the breakers in any order.
use Rattle.std.specs.Prelude.{◌≡◌, ◌≢◌, ◌⊎◌, ◌≤◌, ◌<◌, ⊤, ℕ, ◌+◌, ◌*◌, ◌==◌, if◌then◌else◌, IsTrue, List, [], ◌∷◌, map, length, sum, sum_by, zip, Option, Some, None, is_some, Bool, false, Result, Ok, Err, All, unsigned_abs}
use Rattle.std.specs.List.{AllByRecursion}
use Rattle.agg_model.specs.declared.breaker.Child.TheVariants.{Inflight}
use Rattle.agg_model.specs.declared.breaker.Which.TheVariants.{Request as AtRequest, Parent as AtParent}
use Rattle.agg_model.specs.declared.breaker.Tripped.{Tripped}
use Rattle.agg_model.specs.declared.aggregation.Search.{Search}
use Rattle.agg_model.specs.declared.settings.Settings.{Settings}
use Rattle.agg_model.specs.declared.outcome.Answered.{Answered}
use Rattle.agg_model.specs.declared.outcome.Failure.{Failure}
use Rattle.agg_model.specs.declared.outcome.Refused.{Refused}
use Rattle.agg_model.specs.declared.outcome.Outcome.{Outcome}
use Rattle.agg_model.specs.declared.outcome.Outcome.TheVariants as ended
use Rattle.agg_model.specs.Breakers.{limit_of}
use Rattle.agg_evaluation.specs.Cost.{cost}
use Rattle.agg_evaluation.specs.Trace.{peak}
use Rattle.agg_spec.specs.Index.{Index, rows_in, shard_numbers}
use Rattle.agg_spec.specs.Failures.{unfailed, AreFailures}
use Rattle.agg_spec.specs.Outcome.{Request, outcome, running_search, whole_of}
use Rattle.agg_spec.specs.Charges.{refusal_of}
use Rattle.agg_spec.specs.Rounds.{response_bytes}

-- what each task of these shards holds at most
abbrev pub task_peaks : Index → Option Search → List ℕ → List ℕ
task_peaks index None shards = []
task_peaks index (Some search) shards = map (λ shard. unsigned_abs (peak search (rows_in index shard))) shards

-- the cost of the whole of these shards
abbrev pub result_cost : Index → Option Search → List ℕ → ℕ
result_cost index None shards = 0
result_cost index (Some search) shards = cost (whole_of index search shards)

abbrev pub allows_partial : Result Search Refused → Bool
allows_partial (Ok search) = search.partial
allows_partial (Err r) = false

-- `columns` is the columns' charge, which is held before the wave
module _ (settings : Settings) (index : Index) (columns : ℕ) where
  abbrev pub search_in : Request → Option Search
  search_in request = running_search index settings.max_buckets request

  -- The refusal of a body, given the bytes charged for those before it. An empty body is not charged.
  abbrev pub body_refusal : ℕ → Request → Option Tripped
  body_refusal before request =
      if request.bytes == 0 then None
      else refusal_of settings.limits (record { request = 0; fielddata = columns; inflight = before; parent = columns + before }) Inflight (2 * request.bytes)

  abbrev pub body_charge : Option Tripped → Request → ℕ
  body_charge None request = 2 * request.bytes
  body_charge (Some t) request = 0

  -- the refusals of the bodies, which are charged one after another
  abbrev pub body_refusals : ℕ → List Request → List (Option Tripped)
  body_refusals before [] = []
  body_refusals before (r ∷ rest) =
      let refusal = body_refusal before r in
      refusal ∷ body_refusals (before + body_charge refusal r) rest

  -- The most that a wave can lift a breaker to: what was held, all bodies, twice the peaks of all tasks, and all responses.
  abbrev pub wave_ceiling : List Request → List Answered → ℕ
  wave_ceiling requests answers =
      columns + sum_by (λ r. 2 * r.bytes + 2 * sum (task_peaks index (search_in r) (shard_numbers index))) requests
      + sum (map (λ p. response_bytes index settings p.0 p.1.failures) (zip requests answers))

  -- a refusal of a charge of a task, a merge or a response: the total was seen above the limit and within the ceiling
  pub record IsSeen (ceiling : ℕ) (t : Tripped) : Type 0 where
    pub breaker : (t.which ≡ AtRequest) ⊎ (t.which ≡ AtParent)
    pub limit : t.limit ≡ limit_of settings.limits t.which
    pub above : t.limit < t.wanted
    pub within : t.wanted ≤ ceiling

  -- shards fail only where tasks run and the search allows it
  pub record MayFail (ceiling : ℕ) (request : Request) (failures : List Failure) : Type 0 where
    pub runs : IsTrue (is_some (search_in request))
    pub allowed : IsTrue (allows_partial request.search)
    pub ascending : AreFailures (length index.shards) failures
    pub seen : AllByRecursion (λ f. IsSeen ceiling f.tripped) failures

  abbrev pub AreAllowed : ℕ → Request → List Failure → Type 0
  AreAllowed ceiling request [] = ⊤
  AreAllowed ceiling request (f ∷ rest) = MayFail ceiling request (f ∷ rest)

  -- each task of these shards had room
  pub record PeaksFit (request : Request) (shards : List ℕ) : Type 0 where
    pub at_request : All (λ p. p ≤ settings.limits.request) (task_peaks index (search_in request) shards)
    pub at_parent : All (λ p. p ≤ settings.limits.parent) (task_peaks index (search_in request) shards)

  -- beside the result and the body, so many bytes had room
  pub record ResponseFits (request : Request) (shards : List ℕ) (bytes : ℕ) : Type 0 where
    pub at_request : result_cost index (search_in request) shards + bytes ≤ settings.limits.request
    pub at_parent : columns + 2 * request.bytes + result_cost index (search_in request) shards + bytes ≤ settings.limits.parent

  -- a breaker refused a charge of the search although a shard was left
  pub record IsEnded (ceiling : ℕ) (request : Request) (failures : List Failure) (t : Tripped) : Type 0 where
    pub runs : IsTrue (is_some (search_in request))
    pub left : unfailed index failures ≢ []
    pub seen : IsSeen ceiling t

  abbrev pub IsReduced : Request → Answered → Type 0
  IsReduced request a = a.outcome ≡ outcome index settings.max_buckets request a.failures

  -- what may be answered to a request whose body is charged
  abbrev pub MayEnd : ℕ → Request → Outcome → Answered → Type 0
  MayEnd ceiling request (ended.Response line) a =
      IsReduced request a × PeaksFit request (unfailed index a.failures) × ResponseFits request (unfailed index a.failures) (length line)
  MayEnd ceiling request (ended.Refused r) a = IsReduced request a × PeaksFit request (unfailed index a.failures)
  MayEnd ceiling request (ended.Tripped t) a = IsReduced request a ⊎ IsEnded ceiling request a.failures t
  MayEnd ceiling request ended.Memory a = ⊤

  -- what may be answered to a request, given the refusal of its body
  abbrev pub MayAnswer : ℕ → Request → Option Tripped → Answered → Type 0
  MayAnswer ceiling request None a = AreAllowed ceiling request a.failures × MayEnd ceiling request a.outcome a
  MayAnswer ceiling request (Some t) a = AreAllowed ceiling request a.failures × ((a ≡ record { outcome = ended.Tripped t; failures = [] }) ⊎ (a.outcome ≡ ended.Memory))

  abbrev pub MayAnswerEach : ℕ → List Request → List (Option Tripped) → List Answered → Type 0
  MayAnswerEach ceiling [] refusals [] = ⊤
  MayAnswerEach ceiling (r ∷ rs) (t ∷ ts) (a ∷ later) = MayAnswer ceiling r t a × MayAnswerEach ceiling rs ts later
  MayAnswerEach ceiling _ _ _ = ⊥

  -- these may be the answers to the requests of a wave
  abbrev pub MayAnswerWave : List Request → List Answered → Type 0
  MayAnswerWave requests answers = MayAnswerEach (wave_ceiling requests answers) requests (body_refusals 0 requests) answers
