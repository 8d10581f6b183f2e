-- How one search by one worker is answered, and what it makes of the worker's pass and of what was kept.
use Rattle.std.specs.Prelude.{◌≡◌, ◌⊎◌, ℕ, List}
use Rattle.cache_spec.specs.declared.shard_search.ShardSearch.{ShardSearch}
use Rattle.agg_model.specs.declared.breaker.Tripped.{Tripped}
use Rattle.agg_model.specs.declared.outcome.Answered.{Answered}
use Rattle.agg_model.specs.declared.outcome.Failure.{Failure}
use Rattle.agg_model.specs.declared.outcome.Outcome.{Outcome}
use Rattle.agg_model.specs.declared.outcome.Outcome.TheVariants as ended
use Rattle.agg_model.specs.declared.settings.Settings.{Settings}
use Rattle.cache_spec.specs.Cache.{Cached, cached_answer, cached_run, given_back, searched_cached}
use Rattle.agg_spec.specs.Charges.{Run}
use Rattle.agg_spec.specs.Index.{Index}
use Rattle.agg_spec.specs.Outcome.{Request, running_search}
use Rattle.agg_spec.specs.Reduction.{begun}
use Rattle.agg_spec.specs.Solo.{after_request, outcome_with, solo_answer}
use Rattle.breaker_words.specs.declared.view.View.{View}
use Rattle.solo_charges.specs.Standing.{Before, StandsAt}
use Rattle.agg_search.specs.Progressing.{IsStopped}

-- the definitions' search of this request stands where the pass does, and comes to this outcome with these failures and entries
pub record IsOutcome (settings : Settings) (index : Index) (request : Request) (before : Before) (u : View) (c : Cached)
    (failures : List Failure) (entries : List ShardSearch) (o : Outcome) : Type 0 where
  pub stands : StandsAt before u c.going.run
  pub failures_are : c.going.failures ≡ failures
  pub entries_are : c.entries ≡ entries
  pub outcome_is : o ≡ outcome_with settings index request c.going

-- so many answers are kept at most, and these are kept before
module _ (settings : Settings) (index : Index) (capacity : ℕ) (request : Request) (v : View) (kept : List ShardSearch) (u : View)
    (keeps : List ShardSearch) (failures : List Failure) where
  abbrev searched_at : Run → Cached
  searched_at r =
      searched_cached capacity settings index (record { going = begun r; entries = kept }) (running_search index settings.max_buckets request)

  -- behind the charge of the body, up to the outcome
  abbrev pub Searches : Outcome → Type 0
  Searches o = (before : Before) (r : Run) → StandsAt before v r → IsOutcome settings index request before u (searched_at r) failures keeps o

  abbrev pub StopsSearching : Tripped → Type 0
  StopsSearching t = (before : Before) (r : Run) → StandsAt before v r → IsStopped before u (searched_at r) failures keeps t

  abbrev run_at : Run → Cached
  run_at r = cached_run capacity settings index r kept request

  -- with the charges of the body and of the response
  abbrev pub Solves : Outcome → Type 0
  Solves o = (before : Before) (r : Run) → StandsAt before v r → IsOutcome settings index request before u (run_at r) failures keeps o

  abbrev pub StopsSolving : Tripped → Type 0
  StopsSolving t = (before : Before) (r : Run) → StandsAt before v r → IsStopped before u (run_at r) failures keeps t

-- the answer is the solo run's, and the pass stands where it leaves the breakers
pub record IsAnswered (settings : Settings) (index : Index) (request : Request) (before : Before) (r : Run) (u : View)
    (a : Answered) : Type 0 where
  pub answer : a ≡ solo_answer settings index r request
  pub stands : StandsAt before u (after_request settings index r request)

-- from wherever the pass stands, unless memory ran out
abbrev pub AnswersAlone : Settings → Index → Request → View → View → Answered → Type 0
AnswersAlone settings index request v u a =
    (a.outcome ≡ ended.Memory) ⊎ ((before : Before) (r : Run) → StandsAt before v r → IsAnswered settings index request before r u a)

-- the answer is that of the run with what is kept, the pass stands where it leaves the breakers, and these entries are kept
pub record IsAnsweredCached (settings : Settings) (index : Index) (capacity : ℕ) (request : Request) (before : Before) (r : Run)
    (kept : List ShardSearch) (u : View) (keeps : List ShardSearch) (a : Answered) : Type 0 where
  pub answer : a ≡ cached_answer capacity settings index r kept request
  pub stands : StandsAt before u (given_back r (cached_run capacity settings index r kept request).going.run)
  pub entries : keeps ≡ (cached_run capacity settings index r kept request).entries

abbrev pub AnswersCached : Settings → Index → ℕ → Request → View → List ShardSearch → View → List ShardSearch → Answered → Type 0
AnswersCached settings index capacity request v kept u keeps a =
    (a.outcome ≡ ended.Memory)
    ⊎ ((before : Before) (r : Run) → StandsAt before v r → IsAnsweredCached settings index capacity request before r kept u keeps a)
