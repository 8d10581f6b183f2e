-- The ends of the tasks of searches, one after another.
use Rattle.std.specs.Prelude.{◌≡◌, ◌<◌, ℕ, suc, List, [], ◌∷◌, length, slice_index_or}
use Rattle.std.proofs.Common.{arith}
use Rattle.agg_model.specs.declared.aggregation.Search.{Search}
use Rattle.agg_spec.specs.Index.{Index}
use Rattle.breaker_words.specs.Passes.{WordsModel}
use Rattle.breaker_words.specs.declared.view.View.{View}
use Rattle.fitting_laws.specs.Indexes.{index_of}
use Rattle.shard_pool.specs.Ends.{MayEnd}
use Rattle.shard_pool.specs.declared.search_end.SearchEnd.{SearchEnd}
use Rattle.pool_results.specs.Pools.{no_search}
use Rattle.shard_columns.specs.declared.index.Index.{Index as ShardIndex}
use Rattle.shard_pool.specs.PoolOf.{pool_of}
use Rattle.wave_answers.specs.Ended.{AreEndsOf, IsEnd}

is-end : (words : WordsModel) (index : ShardIndex) (searches : List Search) (ceilings : List ℕ) (q size : ℕ) (view : View) (e : SearchEnd)
    → MayEnd (pool_of words index searches ceilings) q size view e → IsEnd (index_of index) (slice_index_or searches q no_search) e
is-end words index searches ceilings q size view e may = record {
  ascending = may.ascending;
  stopped = may.stopped;
  parts = λ going. (let all = may.parts going in record { groups = all.groups; some = all.some; parts = all.parts; each = all.each });
}

ends-each : (index : Index) (searches : List Search) (ends : List SearchEnd) → length ends ≡ length searches
    → ((q : ℕ) (d : SearchEnd) → q < length searches → IsEnd index (slice_index_or searches q no_search) (slice_index_or ends q d)) → AreEndsOf index searches ends
ends-each index [] [] same each = tt
ends-each index [] (e ∷ ends) same each = absurd (let none : suc (length ends) ≡ 0 = same in omega (arith, none))
ends-each index (search ∷ searches) [] same each = absurd (let none : 0 ≡ suc (length searches) = same in omega (arith, none))
ends-each index (search ∷ searches) (e ∷ ends) same each =
    (each 0 e (omega arith), ends-each index searches ends (let less : suc (length ends) ≡ suc (length searches) = same in omega (arith, less)) (λ q d low. each (suc q) d (omega (arith, low))))

-- each search ended as a pool's searches may
pub ends-of : (words : WordsModel) (index : ShardIndex) (searches : List Search) (ceilings : List ℕ) (size : ℕ) (view : View) (ends : List SearchEnd) → length ends ≡ length searches
    → ((q : ℕ) (d : SearchEnd) → q < length searches → MayEnd (pool_of words index searches ceilings) q size view (slice_index_or ends q d)) → AreEndsOf (index_of index) searches ends
ends-of words index searches ceilings size view ends same may =
    ends-each (index_of index) searches ends same (λ q d low. is-end words index searches ceilings q size view (slice_index_or ends q d) (may q d low))
