-- What the shards that are left come to, and which searches run.
use Rattle.std.specs.Prelude.{◌≡◌, refl, ℕ, ◌+◌, ◌-◌, ◌≤◌, nat_lt, Bool, true, false, List, [], ◌∷◌, ◌*◌, is_none, length, Option, Some, None, Result, Ok, Err}
use Rattle.std.specs.Option.{option_or}
use Rattle.std.proofs.Common.{◌∙◌, sym, ap, subst, arith}
use Rattle.std.proofs.lemmas.Bool.{le-ltb}
use Rattle.agg_evaluation.specs.Ceiling.{search_ceiling}
use Rattle.agg_model.specs.declared.aggregation.Search.{Search}
use Rattle.cache_spec.specs.declared.shard_search.ShardSearch.{ShardSearch}
use Rattle.cache_spec.specs.Cache.{Cached, on_going, reduced_cached, searched_cached}
use Rattle.agg_model.specs.declared.answer.Answer.{Answer}
use Rattle.agg_model.specs.declared.breaker.Tripped.{Tripped}
use Rattle.agg_model.specs.declared.outcome.Failure.{Failure}
use Rattle.agg_model.specs.declared.outcome.Outcome.{Outcome}
use Rattle.agg_model.specs.declared.outcome.Outcome.TheVariants as ended
use Rattle.agg_model.specs.declared.outcome.Refused.{Refused}
use Rattle.agg_model.specs.declared.outcome.Refused.TheVariants as refused
use Rattle.agg_model.specs.declared.partial.Partial.{Partial}
use Rattle.agg_reading.specs.Reading.{Gives}
use Rattle.agg_reading.specs.declared.fault.RequestFault.{RequestFault}
use Rattle.agg_reading.specs.declared.fault.RequestFault.TheVariants as fault
use Rattle.agg_spec.specs.BucketCount.{total_buckets}
use Rattle.agg_spec.specs.Failures.{AreAscending, total_failure, unfailed}
use Rattle.agg_spec.specs.Index.{Index, field_kinds}
use Rattle.agg_spec.specs.Notes.{pipe_out_of_range, piped}
use Rattle.agg_spec.specs.Outcome.{Request, answer_of, answer_outcome, line_in_range, outcome, outcome_of_shards, request_outcome, running, running_search, whole_of, whole_unless_none, wide_path}
use Rattle.agg_spec.specs.RangeCheck.{out_of_range}
use Rattle.agg_spec.specs.Response.{response_line}
use Rattle.agg_model.specs.declared.breaker.Child.TheVariants as child
use Rattle.agg_model.specs.declared.breaker.Limits.{Limits}
use Rattle.agg_model.specs.declared.settings.Settings.{Settings}
use Rattle.agg_spec.proofs.SoloLaws.{run-stopped}
use Rattle.agg_spec.specs.Charges.{Run, charge_of, run}
use Rattle.agg_spec.specs.Reduction.{Going, after_last, batches, begun, reduced, tasks_of}
use Rattle.agg_spec.specs.Solo.{body_charged, outcome_with, responded, response_steps}
use Rattle.breaker_words.specs.declared.view.View.{View}
use Rattle.fitting_laws.specs.Indexes.{index_of}
use Rattle.shard_columns.specs.declared.index.Index.{Index as ShardIndex}
use Rattle.solo_charges.specs.Ends.{IsEnded}
use Rattle.solo_charges.specs.Standing.{Before, StandsAt}
use Rattle.agg_search.specs.Answering.{IsOutcome, StopsSearching, StopsSolving}
use Rattle.agg_search.specs.Progressing.{IsStopped}
use Rattle.agg_search.specs.Reducing.{IsReduced, StopsReducing}
use Rattle.agg_search.specs.Stops.{IfRefused}
use Rattle.agg_search.specs.Telling.{IsTold}
use Rattle.agg_search.specs.declared.stop.Stop.{Stop}
use Rattle.agg_search.specs.declared.stop.Stop.TheVariants as stop
use Rattle.agg_search.proofs.Batching.{rows-count}
use Rattle.agg_search.proofs.Following.{batches-inert, last-inert}

pub ascending-length : (least shards : ℕ) (failures : List Failure) → AreAscending least shards failures → length failures ≤ shards - least
ascending-length least shards [] ascending = omega arith
ascending-length least shards (f ∷ rest) (at_least, below, later) = let fewer = ascending-length (f.shard + 1) shards rest later in omega (arith, fewer)

pub whole-is : (index : Index) (search : Search) (left : List ℕ) (w : Partial) → Some w ≡ whole_unless_none index search left → w ≡ whole_of index search left
whole-is index search [] w e = absurd (let no : ⊥ = cc in no)
whole-is index search (n ∷ ns) w e = let same : w ≡ whole_of index search (n ∷ ns) = cc in same

no-total : (index : Index) (search : Search) (fs : List Failure) (left : List ℕ) (w : Partial) → Some w ≡ whole_unless_none index search left → total_failure fs left ≡ None
no-total index search fs [] w e = absurd (let no : ⊥ = cc in no)
no-total index search [] (n ∷ ns) w e = refl
no-total index search (f ∷ fs) (n ∷ ns) w e = refl

-- an answer whose numbers are all in range, and those of its pipelines
pub line-outcome : (search : Search) (answer : Answer) (line : List ℕ) → out_of_range search answer ≡ None → pipe_out_of_range search answer ≡ None
    → line_in_range (wide_path search answer) line ≡ ended.Response line
line-outcome search answer line answers pipes =
    ap (λ (o : Option (List ℕ)). line_in_range (option_or o (pipe_out_of_range search answer)) line) answers
    ∙ ap (λ (o : Option (List ℕ)). line_in_range o line) pipes

module _ (index : Index) (max : ℕ) (search : Search) (fs : List Failure) (left : List ℕ) where
  abbrev answer : Answer
  answer = answer_of index search left

  abbrev by_total : Option Tripped → Outcome
  by_total o = elim o [ Some t ↦ ended.Tripped t | None ↦ answer_outcome index max search fs answer ]

  abbrev by_count : Bool → Outcome
  by_count b = elim b [
    | true ↦ ended.Refused (refused.TooManyBuckets (total_buckets search answer) max)
    | false ↦ line_in_range (wide_path search answer) (response_line search index.mapping (piped search answer) (length index.shards) fs)
  ]

  pub some-outcome : (w : Partial) → Some w ≡ whole_unless_none index search left → outcome_of_shards index max search fs left ≡ answer_outcome index max search fs answer
  some-outcome w e = ap by_total (no-total index search fs left w e)

  pub few-outcome : total_buckets search answer ≤ max
      → answer_outcome index max search fs answer ≡ line_in_range (wide_path search answer) (response_line search index.mapping (piped search answer) (length index.shards) fs)
  few-outcome few = ap by_count (le-ltb max (total_buckets search answer) few)

-- what an answer of a whole comes to, whose buckets are not too many
pub answered-outcome : (index : ShardIndex) (max : ℕ) (search : Search) (fs : List Failure) (left : List ℕ) (w : Partial) (found : Answer)
    → Some w ≡ whole_unless_none (index_of index) search left → found ≡ answer_of (index_of index) search left → total_buckets search found ≤ max
    → line_in_range (wide_path search found) (response_line search index.mapping (piped search found) (length index.shards) fs)
    ≡ outcome_of_shards (index_of index) max search fs left
answered-outcome index max search fs left w found given same few =
    ap (λ (a : Answer). line_in_range (wide_path search a) (response_line search index.mapping (piped search a) (length index.shards) fs)) same
    ∙ ap (λ (n : ℕ). line_in_range (wide_path search (answer_of (index_of index) search left))
    (response_line search index.mapping (piped search (answer_of (index_of index) search left)) n fs)) (sym (rows-count index))
    ∙ sym (some-outcome (index_of index) max search fs left w given
    ∙ few-outcome (index_of index) max search fs left (subst (λ (a : Answer). total_buckets search a ≤ max) same few))

module _ (index : Index) (max : ℕ) (search : Search) where
  abbrev by_ceiling : List Failure → Option ℕ → Outcome
  by_ceiling fs o = elim o [ None ↦ ended.Refused refused.TooWide | Some ceiling ↦ outcome_of_shards index max search fs (unfailed index fs) ]

  -- a search that is too wide
  pub too-wide : (request : Request) (fs : List Failure) → request.search ≡ Ok search → search_ceiling (field_kinds index) search index.shards ≡ None → outcome index max request fs ≡ ended.Refused refused.TooWide
  too-wide request fs e none = ap (λ s. request_outcome index max s fs) e ∙ ap (by_ceiling fs) none

  pub not-wide : (request : Request) (fs : List Failure) (n : ℕ) → request.search ≡ Ok search → search_ceiling (field_kinds index) search index.shards ≡ Some n
      → outcome index max request fs ≡ outcome_of_shards index max search fs (unfailed index fs)
  not-wide request fs n e some = ap (λ s. request_outcome index max s fs) e ∙ ap (by_ceiling fs) some

  pub not-run : (request : Request) → request.search ≡ Ok search → search_ceiling (field_kinds index) search index.shards ≡ None → running_search index max request ≡ None
  not-run request e none = ap (λ s. running s (outcome index max request [])) e ∙ ap (running (Ok search)) (too-wide request [] e none)

  runs-line : (o : Option (List ℕ)) (line : List ℕ) → running (Ok search) (line_in_range o line) ≡ Some search
  runs-line None line = refl
  runs-line (Some path) line = refl

  runs-count : (left : List ℕ) (b : Bool) → running (Ok search) (by_count index max search [] left b) ≡ Some search
  runs-count left true = refl
  runs-count left false = runs-line (wide_path search (answer_of index search left)) (response_line search index.mapping (piped search (answer_of index search left)) (length index.shards) [])

  pub runs : (request : Request) (n : ℕ) → request.search ≡ Ok search → search_ceiling (field_kinds index) search index.shards ≡ Some n → running_search index max request ≡ Some search
  runs request n e some =
      ap (λ s. running s (outcome index max request [])) e ∙ ap (running (Ok search)) (not-wide request [] n e some)
      ∙ runs-count (unfailed index []) (nat_lt max (total_buckets search (answer_of index search (unfailed index []))))

pub from-some : (o : Option ℕ) (b : Bool) → b ≡ is_none o → b ≡ false → (n : ℕ) × (o ≡ Some n)
from-some (Some n) b e h = (n, refl)
from-some None b e h = absurd (let no : false ≡ true = sym h ∙ e in (let none : ⊥ = cc in none))

-- what reading a body told, unless memory ran out
pub told-fault : (read : Result Search RequestFault) (f : RequestFault) → Gives (λ (search : Search). search) (Err f) read → IsTold f → read ≡ Err f
told-fault read fault.NotJson gives told = gives
told-fault read (fault.Bad code path) gives told = gives
told-fault read fault.Memory gives told = absurd told

-- a body that is no search
pub refused-ends : (settings : Settings) (index : Index) (capacity : ℕ) (kept : List ShardSearch) (request : Request) (r : Refused) → request.search ≡ Err r
    → (before : Before) (u : View) (start : Run) (failures : List Failure) (o : Outcome) → failures ≡ [] → o ≡ ended.Refused r → StandsAt before u start
    → IsOutcome settings index request before u
    (searched_cached capacity settings index (record { going = begun start; entries = kept }) (running_search index settings.max_buckets request)) failures kept o
refused-ends settings index capacity kept request r is before u start failures o empty e stands =
    let not_run : running_search index settings.max_buckets request ≡ None = ap (λ s. running s (outcome index settings.max_buckets request [])) is in
    subst (λ found. IsOutcome settings index request before u (searched_cached capacity settings index (record { going = begun start; entries = kept }) found) failures kept o)
    (sym not_run) (record {
      stands = stands;
      failures_are = sym empty;
      entries_are = refl;
      outcome_is = e ∙ sym (ap (λ s. request_outcome index settings.max_buckets s []) is);
    })

-- so many answers are kept at most, these before and those behind
module _ (settings : Settings) (index : Index) (capacity : ℕ) (kept keeps : List ShardSearch) where
  abbrev from_start : Run → Cached
  from_start r = record { going = begun r; entries = kept }

  module _ (search : Search) (request : Request) (is : request.search ≡ Ok search) where
    abbrev after_search : Run → Cached
    after_search r = searched_cached capacity settings index (from_start r) (running_search index settings.max_buckets request)

    module _ (n : ℕ) (some : search_ceiling (field_kinds index) search index.shards ≡ Some n) (limits : Limits) (same : limits ≡ settings.limits) where
      abbrev all_tasks : Limits → Run → Cached
      all_tasks l r = reduced_cached capacity l search settings.batch (from_start r) (tasks_of index search)

      same-run : (r : Run) → all_tasks limits r ≡ after_search r
      same-run r = ap (λ l. all_tasks l r) same ∙ ap (searched_cached capacity settings index (from_start r)) (sym (runs index settings.max_buckets search request n is some))

      pub search-ends : (before : Before) (u : View) (r : Run) (failures : List Failure) (o : Outcome) → IsReduced before u (all_tasks limits r) failures keeps
          → o ≡ outcome_of_shards index settings.max_buckets search failures (unfailed index failures) → IsOutcome settings index request before u (after_search r) failures keeps o
      search-ends before u r failures o done e =
          let done_there = subst (λ c. IsReduced before u c failures keeps) (same-run r) done in
          record {
            stands = done_there.stands;
            failures_are = done_there.failures_are;
            entries_are = done_there.entries_are;
            outcome_is = e ∙ sym (not-wide index settings.max_buckets search request failures n is some) ∙ ap (outcome index settings.max_buckets request) (sym done_there.failures_are);
          }

      pub search-stops : (before : Before) (u : View) (r : Run) (failures : List Failure) (t : Tripped) → IsStopped before u (all_tasks limits r) failures keeps t
          → IsStopped before u (after_search r) failures keeps t
      search-stops before u r failures t stopped = subst (λ c. IsStopped before u c failures keeps t) (same-run r) stopped

  pub stops-search-if : (search : Search) (n : ℕ) → search_ceiling (field_kinds index) search index.shards ≡ Some n → (limits : Limits) → limits ≡ settings.limits
      → (v u : View) (failures : List Failure) (s : Stop) → IfRefused s (StopsReducing capacity limits search settings.batch (tasks_of index search) v kept u keeps failures)
      → IfRefused s (λ t. (request : Request) → request.search ≡ Ok search → StopsSearching settings index capacity request v kept u keeps failures t)
  stops-search-if search n some limits same v u failures stop.Memory stops = tt
  stops-search-if search n some limits same v u failures (stop.Refused t) stops =
      λ request is before r stands. search-stops search request is n some limits same before u r failures t (stops before r stands)

-- a search of no room for its body
module _ (settings : Settings) (index : Index) (capacity : ℕ) (kept : List ShardSearch) (request : Request) where
  abbrev read_at : Run → Cached
  read_at r = record { going = begun r; entries = kept }

  searched-stays : (r : Run) (t : Tripped) (o : Option Search) → r.refused ≡ Some t → searched_cached capacity settings index (read_at r) o ≡ read_at r
  searched-stays r t None e = refl
  searched-stays r t (Some search) e =
      ap (on_going (after_last settings.limits search)) (batches-inert capacity settings.limits search (batches settings.batch (tasks_of index search)) (read_at r) t e)
      ∙ last-inert capacity settings.limits search (read_at r) t e

  pub responded-stays : (g : Going) (t : Tripped) → g.run.refused ≡ Some t → responded settings index request g ≡ g
  responded-stays g t e = ap (λ r. record { run = r; batch = g.batch; results = g.results; failures = g.failures }) (run-stopped settings.limits g.run t e (response_steps (outcome_with settings index request g)))

  abbrev body_run : Run → Run
  body_run r = body_charged settings index r request

  pub body-stops : (v u : View) (failures : List Failure) (t : Tripped) → failures ≡ []
      → ((before : Before) (r : Run) → StandsAt before v r → IsEnded before u (run settings.limits r (charge_of child.Inflight (2 * request.bytes))) t)
      → StopsSolving settings index capacity request v kept u kept failures t
  body-stops v u failures t empty ends before r stands =
      let ended = ends before r stands in
      let same = searched-stays (body_run r) t (running_search index settings.max_buckets request) ended.refused in
      subst (λ c. IsStopped before u c failures kept t)
      (sym (ap (on_going (responded settings index request)) same ∙ ap (λ g. record { going = g; entries = kept }) (responded-stays (begun (body_run r)) t ended.refused)))
      (record { ended = ended; failures_are = sym empty; entries_are = refl })
