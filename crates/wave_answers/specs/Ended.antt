-- How searches are answered whose tasks have ended ('Search API': `allow_partial_search_results`; 'Circuit breaker settings').
use Rattle.std.specs.Prelude.{◌≡◌, ◌≢◌, ◌⊎◌, ◌≤◌, ◌<◌, ℕ, ◌+◌, List, [], ◌∷◌, map, length, flat_map, IsPermutation, Some, None, true, false, is_some}
use Rattle.std.specs.List.{AllByRecursion}
use Rattle.agg_evaluation.specs.Cost.{cost}
use Rattle.agg_model.specs.Breakers.{limit_of}
use Rattle.agg_model.specs.declared.aggregation.Search.{Search}
use Rattle.agg_model.specs.declared.breaker.Limits.{Limits}
use Rattle.agg_model.specs.declared.breaker.Tripped.{Tripped}
use Rattle.agg_model.specs.declared.breaker.Which.TheVariants.{Request, Fielddata, Inflight, Parent}
use Rattle.agg_model.specs.declared.outcome.Answered.{Answered}
use Rattle.agg_model.specs.declared.outcome.Outcome.{Outcome}
use Rattle.agg_model.specs.declared.outcome.Outcome.TheVariants as ended
use Rattle.agg_search.specs.Paging.{IsBehind}
use Rattle.agg_search.specs.declared.solo.Page.{Page}
use Rattle.agg_spec.specs.Charges.{Amounts, amounts_sum, no_amounts, one_at}
use Rattle.agg_spec.specs.Failures.{AreFailures, unfailed}
use Rattle.agg_spec.specs.Index.{Index}
use Rattle.agg_spec.specs.Outcome.{Request as AnyRequest, outcome_of_shards, response_length, whole_of}
use Rattle.agg_spec.specs.Rises.{merge_charge}
use Rattle.batch_reduce.specs.Parts.{cost_of_parts}
use Rattle.breaker_words.specs.Views.{hold_of}
use Rattle.breaker_words.specs.declared.view.View.{View}
use Rattle.shard_pool.specs.Ends.{is_stopped}
use Rattle.shard_pool.specs.declared.search_end.SearchEnd.{SearchEnd}
use Rattle.shard_columns.specs.declared.index.Index.{Index as ShardIndex}
use Rattle.wave_bodies.specs.declared.asked.Asked.{Asked}
use Rattle.wave_bodies.specs.declared.asked.Asked.TheVariants as asks

-- the parts are the wholes of some groups of the shards that are left, none of them empty
pub record ArePartsOf (index : Index) (search : Search) (e : SearchEnd) : Type 0 where
  pub groups : List (List ℕ)
  pub some : AllByRecursion (λ (g : List ℕ). 1 ≤ length g) groups
  pub parts : e.parts ≡ map (whole_of index search) groups
  pub each : IsPermutation (unfailed index e.failures) (flat_map (λ (g : List ℕ). g) groups)

-- what is known of the end of a search's tasks
pub record IsEnd (index : Index) (search : Search) (e : SearchEnd) : Type 0 where
  pub ascending : AreFailures (length index.shards) e.failures
  pub stopped : is_stopped e ≡ true → e.parts ≡ []
  pub parts : is_stopped e ≡ false → ArePartsOf index search e

-- one for each search
abbrev pub AreEndsOf : Index → List Search → List SearchEnd → Type 0
AreEndsOf index [] [] = Unit {0}
AreEndsOf index (search ∷ searches) (e ∷ ends) = IsEnd index search e × AreEndsOf index searches ends
AreEndsOf index _ _ = ⊥

-- how many of these ask for a search that runs
abbrev pub runs_asked : List Asked → ℕ
runs_asked [] = 0
runs_asked (asks.Runs ∷ more) = runs_asked more + 1
runs_asked (_ ∷ more) = runs_asked more

-- behind each page stands the search of the page that follows it
abbrev pub AreBehind : ShardIndex → List AnyRequest → List Page → Type 0
AreBehind index [] [] = Unit {0}
AreBehind index (request ∷ requests) (page ∷ pages) =
    IsBehind index request page.answered.outcome page.answered.failures page.next × AreBehind index requests pages
AreBehind index _ _ = ⊥

-- what is left of the search: its outcome by the whole reduction
abbrev pub outcome_at : Index → ℕ → Search → SearchEnd → Outcome
outcome_at index max search e = outcome_of_shards index max search e.failures (unfailed index e.failures)

module _ (limits : Limits) (index : Index) (max : ℕ) where
  -- beside what was held at the other children, the result and so many bytes had room
  pub record HasRoom (v : View) (search : Search) (e : SearchEnd) (bytes : ℕ) : Type 0 where
    pub at_request : cost (whole_of index search (unfailed index e.failures)) + bytes ≤ limits.request
    pub at_parent : hold_of v Fielddata + hold_of v Inflight + cost (whole_of index search (unfailed index e.failures)) + bytes ≤ limits.parent

  -- the answer is that of the whole reduction
  pub record IsReduced (v : View) (search : Search) (e : SearchEnd) (o : Outcome) (charged : ℕ) (trips : Amounts) : Type 0 where
    pub outcome_is : o ≡ outcome_at index max search e
    -- a breaker's refusal is passed over only where no shard is left
    pub passed_over : is_some e.refused ≡ true → unfailed index e.failures ≡ []
    pub charged_is : e.refused ≡ None → charged ≡ merge_charge (map cost e.parts) + response_length o
    pub none : trips ≡ no_amounts
    pub room : (line : List ℕ) → o ≡ ended.Response line → HasRoom v search e (length line)

  -- a breaker had refused a charge of the tasks or of the merges of their batches
  pub record IsStopped (e : SearchEnd) (o : Outcome) (t : Tripped) (trips : Amounts) : Type 0 where
    pub refused : e.refused ≡ Some t
    pub outcome_is : o ≡ ended.Tripped t
    pub left : unfailed index e.failures ≢ []
    pub none : trips ≡ no_amounts

  -- a breaker refused the last merge or the response
  pub record IsRefused (v : View) (search : Search) (e : SearchEnd) (o : Outcome) (t : Tripped) (trips : Amounts) : Type 0 where
    pub going : e.refused ≡ None
    pub outcome_is : o ≡ ended.Tripped t
    pub left : unfailed index e.failures ≢ []
    pub breaker : (t.which ≡ Request) ⊎ (t.which ≡ Parent)
    pub limit : t.limit ≡ limit_of limits t.which
    pub above : t.limit < t.wanted
    pub within : t.wanted ≤ hold_of v t.which + cost_of_parts e.parts + response_length (outcome_at index max search e)
    pub one : trips ≡ one_at t.which

  -- how a search is answered by a pass that held so much, what it was granted, and what was refused
  pub record IsAnswer (v : View) (search : Search) (e : SearchEnd) (a : Answered) (charged : ℕ) (trips : Amounts) : Type 0 where
    pub failures_are : a.failures ≡ e.failures
    pub memory : e.memory ≡ false
    pub is : IsReduced v search e a.outcome charged trips
        ⊎ (((t : Tripped) × IsStopped e a.outcome t trips)
        ⊎ ((t : Tripped) × IsRefused v search e a.outcome t trips))

  -- the answers to all that was asked for, with what was granted and refused together
  abbrev pub AreAnswers : View → List Asked → List Search → List SearchEnd → List Answered → ℕ → Amounts → Type 0
  AreAnswers v [] [] [] [] charged trips = (charged ≡ 0) × (trips ≡ no_amounts)
  AreAnswers v (asks.Tripped t ∷ more) searches ends (a ∷ later) charged trips =
      (a ≡ record { outcome = ended.Tripped t; failures = [] }) × AreAnswers v more searches ends later charged trips
  AreAnswers v (asks.Refused r ∷ more) searches ends (a ∷ later) charged trips =
      (a ≡ record { outcome = ended.Refused r; failures = [] }) × AreAnswers v more searches ends later charged trips
  AreAnswers v (asks.Runs ∷ more) (search ∷ searches) (e ∷ ends) (a ∷ later) charged trips =
      (here others : ℕ) × (refused told : Amounts) × IsAnswer v search e a here refused × AreAnswers v more searches ends later others told
      × (charged ≡ here + others) × (trips ≡ amounts_sum refused told)
  AreAnswers _ _ _ _ _ _ _ = ⊥
