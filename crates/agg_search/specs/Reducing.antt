-- All tasks and merges of a search, from wherever the pass stands before.
use Rattle.std.specs.Prelude.{◌≡◌, ℕ, List}
use Rattle.agg_model.specs.declared.aggregation.Search.{Search}
use Rattle.cache_spec.specs.declared.shard_search.ShardSearch.{ShardSearch}
use Rattle.agg_model.specs.declared.breaker.Limits.{Limits}
use Rattle.agg_model.specs.declared.breaker.Tripped.{Tripped}
use Rattle.agg_model.specs.declared.outcome.Failure.{Failure}
use Rattle.cache_spec.specs.Cache.{Cached, reduced_cached}
use Rattle.agg_spec.specs.Charges.{Run}
use Rattle.agg_spec.specs.Reduction.{Task, begun}
use Rattle.breaker_words.specs.declared.view.View.{View}
use Rattle.solo_charges.specs.Standing.{Before, StandsAt}
use Rattle.agg_search.specs.Progressing.{IsStopped}

-- the pass is where the definitions' search is at its end, these shards failed, and these entries are kept
pub record IsReduced (before : Before) (u : View) (c : Cached) (failures : List Failure) (entries : List ShardSearch) : Type 0 where
  pub stands : StandsAt before u c.going.run
  pub failures_are : c.going.failures ≡ failures
  pub entries_are : c.entries ≡ entries

module _ (capacity : ℕ) (limits : Limits) (search : Search) (size : ℕ) (tasks : List Task) (v : View) (kept : List ShardSearch) where
  abbrev all_at : Run → Cached
  all_at r = reduced_cached capacity limits search size (record { going = begun r; entries = kept }) tasks

  abbrev pub Reduces : View → List ShardSearch → List Failure → Type 0
  Reduces u keeps failures = (before : Before) (r : Run) → StandsAt before v r → IsReduced before u (all_at r) failures keeps

  abbrev pub StopsReducing : View → List ShardSearch → List Failure → Tripped → Type 0
  StopsReducing u keeps failures t = (before : Before) (r : Run) → StandsAt before v r → IsStopped before u (all_at r) failures keeps t
