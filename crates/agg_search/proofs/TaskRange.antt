-- The tasks of shards that follow one another.
use Rattle.std.specs.Prelude.{◌≡◌, ℕ, suc, ◌+◌, ◌-◌, ◌≤◌, List, [], ◌∷◌, ◌++◌, map}
use Rattle.std.specs.List.{range_with_len}
use Rattle.std.proofs.Common.{◌∙◌, sym, ap, subst, arith}
use Rattle.std.proofs.lemmas.List.{map-append}
use Rattle.agg_model.specs.declared.aggregation.Search.{Search}
use Rattle.cache_spec.specs.declared.shard_search.ShardSearch.{ShardSearch}
use Rattle.agg_model.specs.declared.breaker.Limits.{Limits}
use Rattle.cache_spec.proofs.CachedLaws.{cached-tasks-append}
use Rattle.cache_spec.specs.Cache.{Cached, after_cached_task, after_cached_tasks}
use Rattle.agg_spec.specs.Index.{Index}
use Rattle.agg_spec.specs.Reduction.{task_of}
use Rattle.breaker_words.specs.declared.view.View.{View}
use Rattle.agg_search.specs.Progressing.{Follows, StopsIn}
use Rattle.agg_search.specs.Stops.{IfRefused}
use Rattle.agg_search.specs.declared.progress.Progress.{Progress}
use Rattle.agg_search.specs.declared.stop.Stop.{Stop}
use Rattle.agg_search.specs.declared.stop.Stop.TheVariants as stop
use Rattle.agg_search.proofs.Following.{follow-then, follows-as, follows-nothing, stop-then, stopped-stays, stops-as, tasks-inert}
use Rattle.agg_search.proofs.Numbers.{range-append, range-push}

module _ (capacity : ℕ) (l : Limits) (index : Index) (search : Search) (from : ℕ) where
  -- the tasks of so many shards from the first one on
  abbrev pub tasks_to : ℕ → Cached → Cached
  tasks_to n c = after_cached_tasks capacity l search c (map (task_of index search) (range_with_len from n))

  abbrev pub one_at : ℕ → Cached → Cached
  one_at n c = after_cached_task capacity l search c (task_of index search n)

  to-next : (n place : ℕ) → place ≡ from + n → (c : Cached) → one_at place (tasks_to n c) ≡ tasks_to (suc n) c
  to-next n place e c =
      sym (ap (λ ns. after_cached_tasks capacity l search c (map (task_of index search) ns)) (range-push from n ∙ ap (λ k. range_with_len from n ++ k ∷ []) (sym e))
      ∙ ap (after_cached_tasks capacity l search c) (map-append (task_of index search) (range_with_len from n) (place ∷ []))
      ∙ cached-tasks-append capacity l search c (map (task_of index search) (range_with_len from n)) (task_of index search place ∷ []))

  to-end : (n m : ℕ) (c : Cached) → after_cached_tasks capacity l search (tasks_to n c) (map (task_of index search) (range_with_len (from + n) m)) ≡ tasks_to (n + m) c
  to-end n m c =
      sym (ap (λ ns. after_cached_tasks capacity l search c (map (task_of index search) ns)) (range-append from n m)
      ∙ ap (after_cached_tasks capacity l search c) (map-append (task_of index search) (range_with_len from n) (range_with_len (from + n) m))
      ∙ cached-tasks-append capacity l search c (map (task_of index search) (range_with_len from n)) (map (task_of index search) (range_with_len (from + n) m)))

  pub none-yet : (v : View) (old : Progress) (kept : List ShardSearch) (n : ℕ) → n ≡ 0 → Follows (tasks_to n) v old kept v old kept
  none-yet v old kept n e = subst (λ k. Follows (tasks_to k) v old kept v old kept) (sym e) (follows-nothing v old kept)

  module _ (v w u : View) (old middle now : Progress) (kept between keeps : List ShardSearch) (place n next : ℕ) (is : n + from ≡ place) (next_is : next ≡ suc n) (before : Follows (tasks_to n) v old kept w middle between) where
    pub one-more : Follows (one_at place) w middle between u now keeps → Follows (tasks_to next) v old kept u now keeps
    one-more one =
        let all = follows-as (λ c. one_at place (tasks_to n c)) (tasks_to (suc n)) v u old now kept keeps (to-next n place (omega arith)) (follow-then (tasks_to n) (one_at place) v w u old middle now kept between keeps before one) in
        subst (λ k. Follows (tasks_to k) v old kept u now keeps) (sym next_is) all

    pub stopped : (s : Stop) (all : ℕ) → next ≤ all → IfRefused s (StopsIn (one_at place) w middle between u now keeps) → IfRefused s (StopsIn (tasks_to all) v old kept u now keeps)
    stopped stop.Memory all le stops = tt
    stopped (stop.Refused t) all le stops =
        let here = stops-as (λ c. one_at place (tasks_to n c)) (tasks_to (suc n)) v u old now kept keeps t (to-next n place (omega arith)) (stop-then (tasks_to n) (one_at place) v w u old middle now kept between keeps t before stops) in
        let rest = map (task_of index search) (range_with_len (from + suc n) (all - suc n)) in
        let at_end = stopped-stays (tasks_to (suc n)) (λ c. after_cached_tasks capacity l search c rest) v u old now kept keeps t (tasks-inert capacity l search rest) here in
        let same : suc n + (all - suc n) ≡ all = omega arith in
        subst (λ k. StopsIn (tasks_to k) v old kept u now keeps t) same
        (stops-as (λ c. after_cached_tasks capacity l search (tasks_to (suc n) c) rest) (tasks_to (suc n + (all - suc n))) v u old now kept keeps t (to-end (suc n) (all - suc n)) at_end)
