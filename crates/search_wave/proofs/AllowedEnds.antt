-- The ends of searches, search by search: what is shown of each without its place in the pool.
use Rattle.std.specs.Prelude.{◌≡◌, ◌≤◌, ◌<◌, ℕ, false, List, [], length, sum_by, slice_index_or}
use Rattle.std.specs.List.{AllByRecursion}
use Rattle.std.proofs.Common.{subst}
use Rattle.agg_evaluation.specs.Cost.{cost}
use Rattle.agg_model.specs.declared.aggregation.Search.{Search}
use Rattle.agg_model.specs.declared.breaker.Limits.{Limits}
use Rattle.agg_spec.specs.Failures.{AreFailures, unfailed}
use Rattle.agg_spec.specs.Index.{Index}
use Rattle.breaker_words.specs.Passes.{WordsModel}
use Rattle.breaker_words.specs.declared.view.View.{View}
use Rattle.shard_pool.proofs.Each.{each-step}
use Rattle.fitting_laws.specs.Indexes.{index_of}
use Rattle.shard_pool.specs.Ends.{IsTold, MayEnd, cost_of_ends, is_stopped, told_in}
use Rattle.shard_pool.specs.declared.search_end.SearchEnd.{SearchEnd}
use Rattle.pool_results.specs.Carried.{PeakFits}
use Rattle.pool_results.specs.Pools.{no_search}
use Rattle.shard_columns.specs.declared.index.Index.{Index as ShardIndex}
use Rattle.shard_pool.specs.PoolOf.{pool_of}
use Rattle.search_wave.proofs.AllowedCosts.{end-cost}
use Rattle.search_wave.proofs.AllowedLists.{ArePairs, pairs-by-place, sum-pairs}
use Rattle.search_wave.proofs.AllowedSums.{search_peaks, shard_peak}

module _ (limits : Limits) (index : Index) where
  -- the task of the shard had room
  pub record HadRoom (search : Search) (shard : ℕ) : Type 0 where
    pub at_request : shard_peak index search shard ≤ limits.request
    pub at_parent : shard_peak index search shard ≤ limits.parent

  pub record HasEnded (view : View) (search : Search) (e : SearchEnd) : Type 0 where
    pub allowed : search.partial ≡ false → e.failures ≡ []
    pub ascending : AreFailures (length index.shards) e.failures
    pub told : AllByRecursion (IsTold limits view) (told_in e)
    pub fits : is_stopped e ≡ false → AllByRecursion (HadRoom search) (unfailed index e.failures)
    pub cost : sum_by cost e.parts ≤ search_peaks index search

  abbrev pub HaveEnded : View → List Search → List SearchEnd → Type 0
  HaveEnded view searches ends = ArePairs (HasEnded view) searches ends

  pub ends-cost : (view : View) (searches : List Search) (ends : List SearchEnd) → HaveEnded view searches ends → cost_of_ends ends ≤ sum_by (search_peaks index) searches
  ends-cost view searches ends h = sum-pairs (HasEnded view) (search_peaks index) (λ (e : SearchEnd). sum_by cost e.parts) (λ search e one. one.cost) searches ends h

module _ (words : WordsModel) (index : ShardIndex) (searches : List Search) (ceilings : List ℕ) (size : ℕ) (view : View) where
  end-known : (q : ℕ) (e : SearchEnd) → MayEnd (pool_of words index searches ceilings) q size view e → HasEnded words.limits (index_of index) view (slice_index_or searches q no_search) e
  end-known q e end = record {
    allowed = end.allowed;
    ascending = end.ascending;
    told = end.told;
    fits = λ going. each-step (PeakFits (pool_of words index searches ceilings) q) (HadRoom words.limits (index_of index) (slice_index_or searches q no_search))
        (λ shard h. record { at_request = h.at_request; at_parent = h.at_parent }) (unfailed (index_of index) e.failures) (end.fits going);
    cost = end-cost (pool_of words index searches ceilings) q size e view end;
  }

  pub ends-known : (limits : Limits) → words.limits ≡ limits → (ends : List SearchEnd) → length ends ≡ length searches
      → ((q : ℕ) (e : SearchEnd) → q < length searches → MayEnd (pool_of words index searches ceilings) q size view (slice_index_or ends q e))
      → HaveEnded limits (index_of index) view searches ends
  ends-known limits same ends number each =
      subst (λ (l : Limits). HaveEnded l (index_of index) view searches ends) same
      (pairs-by-place (HasEnded words.limits (index_of index) view) no_search searches ends number (λ q e low. end-known q (slice_index_or ends q e) (each q e low)))
