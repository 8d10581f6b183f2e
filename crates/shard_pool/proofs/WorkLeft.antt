-- The shards that a search leaves out, and those that are left, over all its results in a closed table.
use Rattle.std.specs.Prelude.{◌≡◌, refl, ℕ, zero, suc, ◌+◌, ◌≤◌, ◌<◌, ◌==◌, not, filter, List, [], ◌∷◌, ◌++◌, flat_map, length, map, Option, Some, None, IsPermutation, IsSortedByKey}
use Rattle.std.specs.List.{AllByRecursion, range_with_len}
use Rattle.std.specs.Ordering.{nat_cmp}
use Rattle.std.proofs.Common.{sym, ◌∙◌, subst, arith}
use Rattle.std.proofs.lemmas.List.Sorted.{All-permutation, IsPermutation-map, IsPermutation-sym, sum_by-IsPermutation}
use Rattle.std.proofs.lemmas.List.Elements.{All-from_recursion, recursion_from_All}
use mathlib.Core.Logic.{dite}
use native.Mathlib.Decide.{dec_lt}
use Rattle.list_laws.proofs.Lists.{flat_map-flat_map}
use Rattle.agg_model.specs.declared.breaker.Tripped.{Tripped}
use Rattle.agg_model.specs.declared.outcome.Failure.{Failure}
use Rattle.agg_spec.specs.Failures.{AreFailures, has_failed, unfailed}
use Rattle.arrival_moves.specs.Lists.{one_if, times}
use Rattle.arrival_moves.proofs.NumberLists.{times_cons}
use Rattle.pool_results.specs.Pools.{Pool, shard_count}
use Rattle.pool_results.specs.Runs.{failure_by, failures_in, left_by, left_in, shards_in}
use Rattle.pool_results.specs.declared.shard_run.ShardRun.{ShardRun}
use Rattle.pool_results.specs.declared.work.Work.{Work}
use Rattle.shard_pool.specs.Closed.{HaveAllTasks, runs_of, works_of}
use Rattle.shard_pool.proofs.Left.{failures-ascend, left-rearranged}
use Rattle.shard_pool.proofs.Rearranged.{times-past, times-range}
use Rattle.shard_pool.proofs.Works.{runs-shards}

abbrev failed_shards : List Failure → List ℕ
failed_shards fs = map (λ (f : Failure). f.shard) fs

-- a shard is left or left out
either-one : (k : ℕ) (r : ShardRun) (runs : List ShardRun) → times k (left_in runs) + times k (failed_shards (failures_in runs)) ≡ times k (shards_in runs)
    → (o : Option Tripped) → times k (left_by r.shard o ++ left_in runs) + times k (failed_shards (failure_by r.shard o ++ failures_in runs)) ≡ times k (shards_in (r ∷ runs))
either-one k r runs rest None = let a = times_cons k r.shard (left_in runs) in let b = times_cons k r.shard (shards_in runs) in omega (arith, rest, a, b)
either-one k r runs rest (Some t) = let a = times_cons k r.shard (failed_shards (failures_in runs)) in let b = times_cons k r.shard (shards_in runs) in omega (arith, rest, a, b)

either : (k : ℕ) (runs : List ShardRun) → times k (left_in runs) + times k (failed_shards (failures_in runs)) ≡ times k (shards_in runs)
either k [] = refl
either k (r ∷ runs) = either-one k r runs (either k runs) r.refused

-- no shard is left that there isn't
within-one : (n : ℕ) (r : ShardRun) (runs : List ShardRun) → r.shard < n → AllByRecursion (λ s. s < n) (left_in runs) → (o : Option Tripped) → AllByRecursion (λ s. s < n) (left_by r.shard o ++ left_in runs)
within-one n r runs here rest None = (here, rest)
within-one n r runs here rest (Some t) = rest

left-within : (n : ℕ) (runs : List ShardRun) → AllByRecursion (λ s. s < n) (shards_in runs) → AllByRecursion (λ s. s < n) (left_in runs)
left-within n [] h = tt
left-within n (r ∷ runs) h = within-one n r runs h.0 (left-within n runs h.1) r.refused

-- of runs of all shards, each once, and their failures by ascending shard
module _ (n : ℕ) (runs : List ShardRun) (all : IsPermutation (shards_in runs) (range_with_len 0 n)) (fs : List Failure) (same : IsPermutation (failures_in runs) fs) where
  times-shards : (k : ℕ) → times k (shards_in runs) ≡ times k (range_with_len 0 n)
  times-shards k = sym (sum_by-IsPermutation (λ x. one_if (x == k)) (shards_in runs) (range_with_len 0 n) all)

  times-failed : (k : ℕ) → times k (failed_shards fs) ≡ times k (failed_shards (failures_in runs))
  times-failed k = sum_by-IsPermutation (λ x. one_if (x == k)) (failed_shards (failures_in runs)) (failed_shards fs) (IsPermutation-map (λ (f : Failure). f.shard) (failures_in runs) fs same)

  each : (k : ℕ) → times k (left_in runs) + times k (failed_shards fs) ≡ times k (range_with_len 0 n)
  each k = let a = either k runs in let b = times-shards k in let c = times-failed k in omega (arith, a, b, c)

  at-most : (k : ℕ) → times k (failed_shards fs) ≤ 1
  at-most k = let a = each k in dite (dec_lt k n) (λ h. let b = times-range n k h in omega (arith, a, b)) (λ h. let b = times-past n k (omega (arith, h)) in omega (arith, a, b))

  past : (k : ℕ) → n ≤ k → times k (failed_shards fs) ≡ 0
  past k h = let a = each k in let b = times-past n k h in omega (arith, a, b)

  within : AllByRecursion (λ s. s < n) (left_in runs)
  within = left-within n runs (recursion_from_All (λ s. s < n) (shards_in runs) (All-permutation (λ s. s < n) (range_with_len 0 n) (shards_in runs) (IsPermutation-sym (shards_in runs) (range_with_len 0 n) all) (All-from_recursion (λ s. s < n) (range_with_len 0 n) (below 0 n (omega arith)))))
    where
      below : (a k : ℕ) → a + k ≤ n → AllByRecursion (λ s. s < n) (range_with_len a k)
      below a zero h = tt
      below a (suc k) h = (omega (arith, h), below (a + 1) k (omega (arith, h)))

  pub runs-failures : IsSortedByKey (λ (f : Failure). f.shard) nat_cmp fs → AreFailures n fs
  runs-failures order = failures-ascend n fs order at-most past

  pub runs-left : IsPermutation (left_in runs) (filter (λ shard. not (has_failed fs shard)) (range_with_len 0 n))
  runs-left = left-rearranged n fs (left_in runs) within (λ k h. each k ∙ times-range n k h)

-- over all results of a search
module _ (p : Pool) (ws : List Work) (task : HaveAllTasks p ws) (q : ℕ) (low : q < length p.searches)
    (fs : List Failure) (same : IsPermutation (failures_in (runs_of q ws)) fs) where
  -- its failures, by ascending shard, are the failures of an answer
  pub works-failures : IsSortedByKey (λ (f : Failure). f.shard) nat_cmp fs → AreFailures (shard_count p) fs
  works-failures = runs-failures (shard_count p) (runs_of q ws) (runs-shards p ws task q low) fs same

  left-joined : left_in (runs_of q ws) ≡ flat_map (λ (w : Work). left_in w.runs) (works_of q ws)
  left-joined = flat_map-flat_map (λ (w : Work). w.runs) (λ (r : ShardRun). left_by r.shard r.refused) (works_of q ws)

  -- and the shards that are left are those that no failure names, rearranged
  pub works-left : IsPermutation (unfailed p.index fs) (flat_map (λ (w : Work). left_in w.runs) (works_of q ws))
  works-left = subst (IsPermutation (unfailed p.index fs)) left-joined
      (IsPermutation-sym (left_in (runs_of q ws)) (unfailed p.index fs) (runs-left (shard_count p) (runs_of q ws) (runs-shards p ws task q low) fs same))

-- the failures of all runs are those of the results, one after another
pub failures-joined : (q : ℕ) (ws : List Work) → failures_in (runs_of q ws) ≡ flat_map (λ (w : Work). failures_in w.runs) (works_of q ws)
failures-joined q ws = flat_map-flat_map (λ (w : Work). w.runs) (λ (r : ShardRun). failure_by r.shard r.refused) (works_of q ws)
