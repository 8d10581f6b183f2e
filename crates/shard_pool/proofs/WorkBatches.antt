-- The results of a search in a closed table: one for each batch, of as many tasks, and none of no task.
use Rattle.std.specs.Prelude.{◌≡◌, refl, ℕ, ◌-◌, ◌*◌, ◌≤◌, ◌<◌, ◌==◌, nat_lt, min, true, false, cond, List, [], ◌∷◌, filter, flat_map, length, map}
use Rattle.std.specs.List.{AllByRecursion}
use Rattle.std.proofs.Common.{sym, ◌∙◌, ap, subst, arith, ⊎_elim}
use Rattle.std.proofs.lemmas.Bool.{cases_Bool, eq-eqb, ltb-true}
use Rattle.std.proofs.lemmas.List.{length-map}
use Rattle.std.proofs.lemmas.List.Elements.{recursion_from_All}
use Rattle.list_laws.proofs.Each.{each-filter, each-mapped}
use Rattle.list_laws.proofs.Lists.{filter-map, map-map}
use Rattle.arrival_moves.specs.declared.plan.Plan.{Plan}
use Rattle.arrival_moves.specs.Fairness.{IsOfSearch}
use Rattle.arrival_moves.specs.Lists.{numbers_from, one_if, times}
use Rattle.arrival_moves.specs.Plans.{batch_size, search_of, tasks_of}
use Rattle.arrival_moves.proofs.NumberLists.{times_cons}
use Rattle.arrival_table.specs.Closing.{IsWholeBatch, batch_of, batches_of}
use Rattle.arrival_table.specs.declared.table.Merged.{Merged}
use Rattle.pool_results.specs.Carried.{AreRuns, label_of}
use Rattle.pool_results.specs.Pools.{Pool, shard_count, task_number}
use Rattle.pool_results.specs.Runs.{shards_in}
use Rattle.pool_results.specs.declared.shard_run.ShardRun.{ShardRun}
use Rattle.pool_results.specs.declared.work.Work.{Work}
use Rattle.shard_pool.specs.Batches.{AreFull, batch_count}
use Rattle.shard_pool.specs.Closed.{AreClosed, IsPlanOf, works, works_of}
use Rattle.shard_pool.proofs.Batches.{IsPlaced, results-count, results-full}
use Rattle.shard_pool.proofs.Each.{each-append, each-both, each-image, each-step}

-- a batch that its search has
abbrev IsReal : Plan → ℕ × ℕ → Type 0
IsReal plan z = z.1 * plan.batch < tasks_of plan z.0

numbers-real : (plan : Plan) (q : ℕ) (bs : List ℕ) → AllByRecursion (IsReal plan) (map (λ b. (q, b)) (filter (λ b. nat_lt (b * plan.batch) (tasks_of plan q)) bs))
numbers-real plan q [] = tt
numbers-real plan q (b ∷ bs) = ⊎_elim
    (λ (e : nat_lt (b * plan.batch) (tasks_of plan q) ≡ true). subst (λ t. AllByRecursion (IsReal plan) (map (λ c. (q, c)) (cond t (b ∷ there) there))) (sym e) (ltb-true (b * plan.batch) (tasks_of plan q) e, numbers-real plan q bs))
    (λ (e : nat_lt (b * plan.batch) (tasks_of plan q) ≡ false). subst (λ t. AllByRecursion (IsReal plan) (map (λ c. (q, c)) (cond t (b ∷ there) there))) (sym e) (numbers-real plan q bs))
    (cases_Bool (nat_lt (b * plan.batch) (tasks_of plan q)))
  where
    there : List ℕ
    there = filter (λ b. nat_lt (b * plan.batch) (tasks_of plan q)) bs

all-real : (plan : Plan) (qs : List ℕ) → AllByRecursion (IsReal plan) (flat_map (batches_of plan) qs)
all-real plan [] = tt
all-real plan (q ∷ qs) = each-append (IsReal plan) (batches_of plan q) (flat_map (batches_of plan) qs) (numbers-real plan q (numbers_from 0 (tasks_of plan q))) (all-real plan qs)

module _ (p : Pool) (size : ℕ) (big : 2 ≤ size) (plan : Plan) (of : IsPlanOf p size plan) {R : Type 0} (work : R → Work) where
  abbrev number : Merged R → ℕ
  number m = length (work m.result).runs

  -- a result stands for tasks of its search, one at least
  pub record IsKnown (m : Merged R) : Type 0 where
    pub search_is : m.search ≡ (work m.result).search
    pub size_is : length (work m.result).runs ≡ batch_size plan m.search m.batch
    pub some : 1 ≤ length (work m.result).runs

  -- the first task of a label
  first-search : (q : ℕ) (w : Work) → AreRuns p w.search w.runs → IsOfSearch plan q (label_of p w) → 1 ≤ length w.runs → q ≡ w.search
  first-search q w are same h = by_runs w.runs are.shards h (λ k there. (same k there).1)
    where
      by_runs : (runs : List ShardRun) → AllByRecursion (λ s. s < shard_count p) (shards_in runs) → 1 ≤ length runs
          → ((k : ℕ) → 1 ≤ times k (map (task_number p w.search) (shards_in runs)) → search_of plan k ≡ q) → q ≡ w.search
      by_runs [] low h is = absurd (omega (arith, h))
      by_runs (r ∷ runs) low h is =
          let k : ℕ = task_number p w.search r.shard in
          let a = times_cons k k (map (task_number p w.search) (shards_in runs)) in let b : one_if (k == k) ≡ 1 = ap one_if (eq-eqb k k refl) in
          sym (is k (omega (arith, a, b))) ∙ of.search w.search r.shard are.search low.0

  known : (m : Merged R) → AreRuns p (work m.result).search (work m.result).runs → IsWholeBatch (λ r. label_of p (work r)) plan m → IsReal plan (batch_of m) → IsKnown m
  known m are whole real = record { search_is = first-search m.search (work m.result) are whole.1 some; size_is = size-is; some = some }
    where
      size-is : length (work m.result).runs ≡ batch_size plan m.search m.batch
      size-is =
          sym (length-map (work m.result).runs (λ (r : ShardRun). r.shard))
          ∙ sym (length-map (shards_in (work m.result).runs) (task_number p (work m.result).search)) ∙ whole.0

      some : 1 ≤ length (work m.result).runs
      some =
          let b : ℕ = m.batch * plan.batch in let t : ℕ = tasks_of plan m.search in let h : b < t = real in let n : ℕ = plan.batch in let e : n ≡ size = of.batch in
          let l : length (work m.result).runs ≡ min n (t - b) = size-is in omega (arith, h, e, l, big)

  module _ (ms : List (Merged R)) (closed : AreClosed work p plan ms) where
    pub all-known : AllByRecursion IsKnown ms
    all-known = each-both (λ (m : Merged R). AreRuns p (work m.result).search (work m.result).runs) (λ (m : Merged R). IsWholeBatch (λ r. label_of p (work r)) plan m × IsReal plan (batch_of m)) IsKnown (λ m are both. known m are both.0 both.1) ms
        closed.runs
        (each-both (IsWholeBatch (λ r. label_of p (work r)) plan) (λ (m : Merged R). IsReal plan (batch_of m)) (λ (m : Merged R). IsWholeBatch (λ r. label_of p (work r)) plan m × IsReal plan (batch_of m)) (λ m whole real. (whole, real)) ms
        (recursion_from_All (IsWholeBatch (λ r. label_of p (work r)) plan) ms closed.whole)
        (each-image (IsReal plan) batch_of ms (subst (AllByRecursion (IsReal plan)) (sym closed.batches) (all-real plan (numbers_from 0 plan.searches)))))

    -- none is of no task
    pub works-some : (q : ℕ) → AllByRecursion (λ (w : Work). 1 ≤ length w.runs) (works_of q (works work ms))
    works-some q = each-filter (λ (w : Work). 1 ≤ length w.runs) (λ (w : Work). w.search == q) (works work ms)
        (each-mapped IsKnown (λ (w : Work). 1 ≤ length w.runs) (λ (m : Merged R). work m.result) (λ m k. k.some) ms all-known)

    placed : AllByRecursion (IsPlaced plan batch_of (λ (m : Merged R). (work m.result).search) number) ms
    placed = each-step IsKnown (IsPlaced plan batch_of (λ (m : Merged R). (work m.result).search) number) (λ m k. record { search_is = k.search_is; size = k.size_is }) ms all-known

    module _ (q : ℕ) (low : q < length p.searches) where
      below : q < plan.searches
      below = subst (λ n. q < n) (sym of.searches) low

      two : 1 ≤ plan.batch
      two = let e : plan.batch ≡ size = of.batch in omega (arith, e, big)

      of-search : works_of q (works work ms) ≡ map (λ (m : Merged R). work m.result) (filter (λ (m : Merged R). (work m.result).search == q) ms)
      of-search = filter-map (λ (w : Work). w.search == q) (λ (m : Merged R). work m.result) ms

      -- there is one for each batch
      pub works-count : length (works_of q (works work ms)) ≡ batch_count (shard_count p) size
      works-count =
          ap length of-search ∙ length-map (filter (λ (m : Merged R). (work m.result).search == q) ms) (λ (m : Merged R). work m.result)
          ∙ results-count plan batch_of (λ (m : Merged R). (work m.result).search) number ms closed.batches placed q below (shard_count p) two (of.tasks q low)
          ∙ ap (batch_count (shard_count p)) of.batch

      -- and all but the last are full
      pub works-full : AreFull size (map (λ (w : Work). length w.runs) (works_of q (works work ms)))
      works-full =
          subst (λ k. AreFull k (map (λ (w : Work). length w.runs) (works_of q (works work ms)))) of.batch
          (subst (AreFull plan.batch) (sym (ap (map (λ (w : Work). length w.runs)) of-search ∙ map-map (λ (w : Work). length w.runs) (λ (m : Merged R). work m.result) (filter (λ (m : Merged R). (work m.result).search == q) ms)))
          (results-full plan batch_of (λ (m : Merged R). (work m.result).search) number ms closed.batches placed q below (shard_count p) two (of.tasks q low)))
