-- Searches with a cache: their tasks and batches in parts, and what no longer changes once a breaker has ended them.
use Rattle.std.specs.Prelude.{◌≡◌, refl, ℕ, Bool, List, [], ◌∷◌, ◌++◌, Some}
use Rattle.std.proofs.Common.{◌∙◌, ap}
use Rattle.agg_model.specs.declared.aggregation.Search.{Search}
use Rattle.agg_model.specs.declared.breaker.Limits.{Limits}
use Rattle.cache_spec.specs.Cache.{Cached, after_cached_batches, after_cached_task, after_cached_tasks, on_going}
use Rattle.agg_spec.specs.Reduction.{Task, after_batch}

module _ (capacity : ℕ) (limits : Limits) (search : Search) where
  pub cached-tasks-append : (c : Cached) (xs ys : List Task)
      → after_cached_tasks capacity limits search c (xs ++ ys) ≡ after_cached_tasks capacity limits search (after_cached_tasks capacity limits search c xs) ys
  cached-tasks-append c [] ys = refl
  cached-tasks-append c (x ∷ xs) ys = cached-tasks-append (after_cached_task capacity limits search c x) xs ys

  pub cached-batches-append : (c : Cached) (xs ys : List (List Task))
      → after_cached_batches capacity limits search c (xs ++ ys) ≡ after_cached_batches capacity limits search (after_cached_batches capacity limits search c xs) ys
  cached-batches-append c [] ys = refl
  cached-batches-append c (x ∷ xs) ys =
      cached-batches-append (on_going (after_batch limits search) (after_cached_tasks capacity limits search c x)) xs ys
