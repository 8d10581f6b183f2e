-- The results of a closed table have each task once; so what their shards are, and what they add up to.
use Rattle.std.specs.Prelude.{◌≡◌, ℕ, ◌+◌, ◌*◌, ◌≤◌, ◌<◌, List, flat_map, length, map, sum, sum_by, IsPermutation}
use Rattle.std.specs.List.{AllByRecursion, range_with_len}
use Rattle.std.proofs.Common.{sym, ◌∙◌, subst}
use Rattle.std.proofs.lemmas.List.Sorted.{IsPermutation-sym}
use Rattle.list_laws.proofs.Each.{each-mapped}
use Rattle.list_laws.proofs.Lists.{map-flat_map, sum_by-flat_map, sum_by-map}
use Rattle.arrival_moves.specs.declared.plan.Plan.{Plan}
use Rattle.arrival_moves.specs.Lists.{times}
use Rattle.arrival_table.specs.declared.table.Merged.{Merged}
use Rattle.pool_results.specs.Carried.{AreRuns}
use Rattle.pool_results.specs.Pools.{Pool, ceiling_at, shard_count}
use Rattle.pool_results.specs.Runs.{shards_in}
use Rattle.pool_results.specs.declared.shard_run.ShardRun.{ShardRun}
use Rattle.pool_results.specs.declared.work.Work.{Work}
use Rattle.shard_pool.specs.Closed.{AreClosed, HaveAllTasks, IsPlanOf, runs_of, works, works_of}
use Rattle.shard_pool.proofs.Shards.{shard-apart, shard-once, shards-rearranged, shards-sum, shards-within}
use Rattle.shard_pool.proofs.Sums.{all-results, all-tasks, by-search}

abbrev search : Work → ℕ
search w = w.search

abbrev shards : Work → List ℕ
shards w = shards_in w.runs

module _ (p : Pool) {R : Type 0} (work : R → Work) where
  -- the results of a closed table have each task once
  pub have-each-task : (size : ℕ) (plan : Plan) → IsPlanOf p size plan → (ms : List (Merged R)) → AreClosed work p plan ms → HaveAllTasks p (works work ms)
  have-each-task size plan of ms closed = record {
    searches = each-mapped (λ (m : Merged R). AreRuns p (work m.result).search (work m.result).runs) (λ (w : Work). w.search < length p.searches) (λ m. work m.result) (λ m r. r.search) ms closed.runs;
    within = each-mapped (λ (m : Merged R). AreRuns p (work m.result).search (work m.result).runs) (λ (w : Work). AllByRecursion (λ s. s < shard_count p) (shards_in w.runs)) (λ m. work m.result) (λ m r. r.shards) ms closed.runs;
    once = λ k low. sum_by-map (λ (w : Work). times k (map (λ s. w.search * shard_count p + s) (shards_in w.runs))) (λ (m : Merged R). work m.result) ms ∙ closed.once k (subst (λ c. k < c) (sym of.count) low);
  }

module _ (p : Pool) (ws : List Work) (each : HaveAllTasks p ws) where
  -- a sum over the shards of all results, with the search of each, is the sum over all tasks
  pub works-sum : (f : ℕ → ℕ → ℕ) → sum_by (λ (w : Work). sum_by (f w.search) (shards_in w.runs)) ws ≡ sum_by (λ q. sum_by (f q) (range_with_len 0 (shard_count p))) (range_with_len 0 (length p.searches))
  works-sum f = all-tasks search shards (length p.searches) (shard_count p) ws each f

  -- so is what all their ceilings add up to
  pub ceilings-sum : length p.ceilings ≡ length p.searches * shard_count p → sum_by (λ (w : Work). sum_by (ceiling_at p w.search) (shards_in w.runs)) ws ≡ sum p.ceilings
  ceilings-sum e = all-results search shards (length p.searches) (shard_count p) ws each p.ceilings e

  -- a sum over results, search by search
  pub works-by-search : (g : Work → ℕ) → sum_by g ws ≡ sum_by (λ q. sum_by g (works_of q ws)) (range_with_len 0 (length p.searches))
  works-by-search g = by-search search g (length p.searches) ws each.searches

  module _ (q : ℕ) (low : q < length p.searches) where
    -- the shards of one search's results are all shards, rearranged
    pub works-shards : IsPermutation (flat_map (λ (w : Work). shards_in w.runs) (works_of q ws)) (range_with_len 0 (shard_count p))
    works-shards = shards-rearranged search shards (shard_count p) (length p.searches) ws each q low

    pub shards-works : IsPermutation (range_with_len 0 (shard_count p)) (flat_map (λ (w : Work). shards_in w.runs) (works_of q ws))
    shards-works = IsPermutation-sym (flat_map (λ (w : Work). shards_in w.runs) (works_of q ws)) (range_with_len 0 (shard_count p)) works-shards

    -- so are those of all its runs
    pub runs-shards : IsPermutation (shards_in (runs_of q ws)) (range_with_len 0 (shard_count p))
    runs-shards = subst (λ ns. IsPermutation ns (range_with_len 0 (shard_count p))) (sym (map-flat_map (λ (r : ShardRun). r.shard) (λ (w : Work). w.runs) (works_of q ws))) works-shards

    pub works-shards-sum : (f : ℕ → ℕ) → sum_by f (flat_map (λ (w : Work). shards_in w.runs) (works_of q ws)) ≡ sum_by f (range_with_len 0 (shard_count p))
    works-shards-sum f = shards-sum search shards (shard_count p) (length p.searches) ws each q low f

    -- result by result
    pub works-of-sum : (f : ℕ → ℕ) → sum_by (λ (w : Work). sum_by f (shards_in w.runs)) (works_of q ws) ≡ sum_by f (range_with_len 0 (shard_count p))
    works-of-sum f = sym (sum_by-flat_map f (λ (w : Work). shards_in w.runs) (works_of q ws)) ∙ works-shards-sum f

    -- each of them is there once
    pub works-shard-once : (s : ℕ) → s < shard_count p → times s (flat_map (λ (w : Work). shards_in w.runs) (works_of q ws)) ≡ 1
    works-shard-once s h = shard-once search shards (shard_count p) (length p.searches) ws each q low s h

    pub works-shard-apart : (s : ℕ) → times s (flat_map (λ (w : Work). shards_in w.runs) (works_of q ws)) ≤ 1
    works-shard-apart s = shard-apart search shards (shard_count p) (length p.searches) ws each q low s

  pub works-within : (q : ℕ) → AllByRecursion (λ s. s < shard_count p) (flat_map (λ (w : Work). shards_in w.runs) (works_of q ws))
  works-within q = shards-within search shards (shard_count p) q ws each.within
