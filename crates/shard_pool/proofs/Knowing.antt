-- What is known of an index, of the searches that are made for it, and of room for their tasks, is all that workers ask of a pool.
use Rattle.std.specs.Prelude.{◌≡◌, refl, ◌≤◌, ◌<◌, ◌*◌, ℕ, zero, suc, true, Bool, List, [], ◌∷◌, length, slice_get, Some, IsTrue}
use Rattle.std.proofs.Common.{sym, subst, arith}
use Rattle.agg_cost.proofs.EachTask.{all-at}
use Rattle.agg_evaluation.specs.SearchFits.{search_fits}
use Rattle.agg_evaluation.specs.Trees.{numbers_fit}
use Rattle.agg_model.specs.declared.aggregation.Search.{Search}
use Rattle.list_laws.specs.Among.{AreAmong}
use Rattle.fitting_laws.proofs.SomeShards.{fit-some}
use Rattle.agg_spec.specs.Index.{Index}
use Rattle.agg_spec.specs.Outcome.{whole_of}
use Rattle.pool_results.specs.Pools.{IsPool, IsTask, Pool, ceiling_at, cost_at, no_search, search_at, shard_count}
use Rattle.pool_results.proofs.Pooling.{ceiling-answer, ceiling-some, get-index, shards-are}
use Rattle.pool_results.specs.Pooled.{IsPoolOf}
use Rattle.fitting_laws.specs.Indexes.{index_of}
use Rattle.shard_columns.specs.declared.index.Index.{Index as ShardIndex}

-- there is an item at each place
there : {A : Type 0} (xs : List A) (i : ℕ) → i < length xs → (x : A) × (slice_get xs i ≡ Some x)
there [] i h = absurd (omega (arith, h))
there (x ∷ xs) zero h = (x, refl)
there (x ∷ xs) (suc i) h = there xs i (omega (arith, h))

is-true : {b : Bool} → b ≡ true → IsTrue b
is-true {b} e = e

true-is : {b : Bool} → IsTrue b → b ≡ true
true-is {b} e = e

module _ (index : ShardIndex) (p : Pool) (pool : IsPoolOf index p) where
  low-shard : (s : ℕ) → s < shard_count p → s < length index.shards
  low-shard s h = subst (λ n. s < n) (shards-are index p pool) h

  known-some : (q s : ℕ) → IsTask p q s → 1 ≤ ceiling_at p q s
  known-some q s t =
      let a = there p.searches q t.search in let b = there index.shards s (low-shard s t.shard) in
      ceiling-some index p pool q s a.0 b.0 a.1 b.1

  known-answers : (q s : ℕ) → IsTask p q s → 2 * cost_at p q s ≤ ceiling_at p q s
  known-answers q s t =
      let a = there p.searches q t.search in let b = there index.shards s (low-shard s t.shard) in
      ceiling-answer index p pool q s a.0 b.0 a.1 b.1

  known-fit : (q : ℕ) (shards : List ℕ) → q < length p.searches → AreAmong (shard_count p) shards → IsTrue (numbers_fit (whole_of p.index (search_at p q) shards))
  known-fit q shards low among =
      let a = there p.searches q low in
      let made = is-true (all-at (search_fits index.mapping) p.searches q a.0 (true-is pool.made) a.1) in
      let within : AreAmong (length index.shards) shards = subst (λ n. AreAmong n shards) (shards-are index p pool) among in
      subst (λ (ix : Index). IsTrue (numbers_fit (whole_of ix (search_at p q) shards))) (sym pool.index_is)
      (subst (λ (z : Search). IsTrue (numbers_fit (whole_of (index_of index) z shards))) (sym (get-index no_search p.searches q a.0 a.1)) (fit-some index a.0 made shards within))

  pub pool-known : IsPool p
  pool-known = record { some = known-some; answers = known-answers; fit = known-fit }
