-- What is known when a pool is closed: the results, the joined pass, and the ends.
use Rattle.std.specs.Prelude.{◌≡◌, ◌≤◌, ◌<◌, ℕ, ◌+◌, ◌==◌, ◌++◌, false, List, [], ◌∷◌, map, flat_map, length, sum, sum_by, slice_index_or, IsPermutation, Option, Some, None}
use Rattle.std.specs.List.{AllByRecursion}
use Rattle.std.proofs.Common.{sym, ap, subst, ◌∙◌, arith}
use Rattle.std.proofs.lemmas.List.Sorted.{sum_by-IsPermutation}
use Rattle.std.proofs.lemmas.List.Sums.{sum_by-append}
use Rattle.list_laws.proofs.Lists.{sum_by-map}
use Rattle.agg_evaluation.specs.Ceiling.{greatest_of}
use Rattle.agg_model.specs.declared.breaker.Child.TheVariants as child
use Rattle.agg_model.specs.declared.breaker.Tripped.{Tripped}
use Rattle.agg_model.specs.declared.breaker.Which.{Which}
use Rattle.agg_model.specs.declared.outcome.Failure.{Failure}
use Rattle.agg_spec.specs.Failures.{AreFailures, unfailed}
use Rattle.agg_spec.specs.Rises.{merge_charge}
use Rattle.arrival_moves.specs.Lists.{one_if, times}
use Rattle.arrival_moves.proofs.NumberLists.{times_append, times_cons}
use Rattle.breaker_tree.specs.Charge.{IsGivenBack}
use Rattle.breaker_words.specs.Passes.{IsOf, PassModel}
use Rattle.breaker_words.specs.Soundness.{IsBounded}
use Rattle.breaker_words.specs.Views.{most_of, seen_of}
use Rattle.breaker_words.specs.declared.view.View.{View}
use Rattle.shard_pool.specs.Batches.{batch_count}
use Rattle.shard_pool.specs.Closed.{HaveAllTasks, works_of}
use Rattle.shard_pool.proofs.Left.{failures-ascend}
use Rattle.shard_pool.proofs.Rearranged.{times-above}
use Rattle.shard_pool.proofs.WorkLeft.{failures-joined, works-left}
use Rattle.shard_pool.proofs.Works.{works-shard-apart, works-sum, works-within}
use Rattle.pool_results.specs.Carried.{IsCarried, has_failed}
use Rattle.pool_results.specs.Passes.{IsSeen}
use Rattle.pool_results.specs.Pools.{Pool, ceiling_at, cost_at, shard_count}
use Rattle.pool_results.specs.Runs.{failures_in, failure_by, left_in, shards_in, told_by}
use Rattle.pool_results.specs.declared.shard_run.ShardRun.{ShardRun}
use Rattle.pool_results.specs.declared.work.Work.{Work}
use Rattle.shard_pool.specs.Ends.{IsTold, MayEnd, is_stopped, over_tasks, task_costs}
use Rattle.shard_pool.specs.Gathered.{IsGathered, all_failures, lost, no_results}
use Rattle.shard_pool.specs.Joined.{HasSeen}
use Rattle.shard_pool.specs.Results.{AreCarried, Result, views_in, works_in}
use Rattle.shard_pool.specs.Settled.{AreEnds, IsEndOf}
use Rattle.shard_pool.specs.declared.gathered.Gathered.{Gathered}
use Rattle.shard_pool.specs.declared.search_end.SearchEnd.{SearchEnd}
use Rattle.shard_pool.proofs.Ending.{IsResultOf, may-end, same-failures}
use Rattle.shard_pool.proofs.Passes.{all-weaker}
use Rattle.shard_pool.proofs.Searches.{end-at, of-search, sum-is}
use Rattle.shard_pool.proofs.Taking.{AreTaken}

-- the results of a table that was closed, in batches of a size
pub record AreAll (p : Pool) (size : ℕ) (ws : List Work) : Type 0 where
  pub tasks : HaveAllTasks p ws
  pub some : (q : ℕ) → AllByRecursion (λ (w : Work). 1 ≤ length w.runs) (works_of q ws)
  pub count : (q : ℕ) → q < length p.searches → length (works_of q ws) ≡ batch_count (shard_count p) size
  pub skipped : (q : ℕ) → AllByRecursion (λ w. has_failed w ≡ false) (works_of q ws) → AllByRecursion (λ (w : Work). w.skipped ≡ false) (works_of q ws)
  pub charge : (q : ℕ) → q < length p.searches → sum (task_costs p q) ≤ sum_by (λ (w : Work). merge_charge (map (cost_at p q) (shards_in w.runs))) (works_of q ws) + greatest_of (task_costs p q)
  pub alone : (q : ℕ) → q < length p.searches → shard_count p ≤ size → sum_by (λ (w : Work). merge_charge (map (cost_at p q) (shards_in w.runs))) (works_of q ws) ≡ merge_charge (task_costs p q)

-- the pass before, when all was joined, and when the searches were settled
pub record IsClosed (p : Pool) (size : ℕ) (old : View) (rs : List Result) (joined : PassModel) (gs : List Gathered) (new : PassModel) (es : List SearchEnd) : Type 0 where
  pub taken : AreTaken p old rs joined gs
  pub all : AreAll p size (works_in rs)
  pub cap : old.cap + over_tasks p (ceiling_at p) ≡ old.total
  pub of : IsOf p.words new
  pub given : IsGivenBack joined.view child.Request (sum_by lost gs) new.view
  pub ends : AreEnds gs es
  pub before : IsBounded p.words.limits old
  pub after : IsBounded p.words.limits new.view
  pub seen : new.view.cap ≡ new.view.total → (x : Which) → seen_of new.view x ≤ most_of new.view x

-- a shard that is left out is one of the shards
failed-one : (k : ℕ) (r : ShardRun) (runs : List ShardRun) → times k (map (λ (f : Failure). f.shard) (failures_in runs)) ≤ times k (shards_in runs)
    → (o : Option Tripped) → times k (map (λ (f : Failure). f.shard) (failure_by r.shard o ++ failures_in runs)) ≤ times k (shards_in (r ∷ runs))
failed-one k r runs rest None = let b = times_cons k r.shard (shards_in runs) in omega (arith, rest, b)
failed-one k r runs rest (Some t) = let a = times_cons k r.shard (map (λ (f : Failure). f.shard) (failures_in runs)) in let b = times_cons k r.shard (shards_in runs) in omega (arith, rest, a, b)

failed-low : (k : ℕ) (runs : List ShardRun) → times k (map (λ (f : Failure). f.shard) (failures_in runs)) ≤ times k (shards_in runs)
failed-low k [] = omega arith
failed-low k (r ∷ runs) = failed-one k r runs (failed-low k runs) r.refused

-- as sums over the failures
abbrev at_shard : ℕ → Failure → ℕ
at_shard k f = one_if (f.shard == k)

failed-sum : (k : ℕ) (fs : List Failure) → times k (map (λ (f : Failure). f.shard) fs) ≡ sum_by (at_shard k) fs
failed-sum k fs = sum_by-map (λ s. one_if (s == k)) (λ (f : Failure). f.shard) fs

all-failed-low : (k : ℕ) (ws : List Work) → sum_by (at_shard k) (all_failures ws) ≤ times k (flat_map (λ (w : Work). shards_in w.runs) ws)
all-failed-low k [] = omega arith
all-failed-low k (w ∷ ws) =
    let a = sum_by-append (at_shard k) (failures_in w.runs) (all_failures ws) in let b = times_append k (shards_in w.runs) (flat_map (λ (v : Work). shards_in v.runs) ws) in
    let here = failed-low k w.runs in let same = failed-sum k (failures_in w.runs) in let rest = all-failed-low k ws in omega (arith, a, b, here, same, rest)

-- the failures of an end are among those of the results
end-failed : (k : ℕ) (ws : List Work) (g : Gathered) (e : SearchEnd) → IsGathered ws g → IsEndOf g e → times k (map (λ (f : Failure). f.shard) e.failures) ≤ times k (flat_map (λ (w : Work). shards_in w.runs) ws)
end-failed k ws g e is end =
    let a = failed-sum k e.failures in let b = sum_by-IsPermutation (at_shard k) g.failures e.failures end.failures in
    let c = sum_by-append (at_shard k) g.failures is.front.0 in let d = ap (sum_by (at_shard k)) is.front.1 in let h = all-failed-low k ws in omega (arith, a, b, c, d, h)

module _ (p : Pool) (size : ℕ) (old : View) (rs : List Result) (joined : PassModel) (gs : List Gathered) (new : PassModel) (es : List SearchEnd) (c : IsClosed p size old rs joined gs new es) where
  abbrev ws : List Work
  ws = works_in rs

  -- all caps together
  caps : sum_by (λ (v : View). v.cap) (views_in rs) ≡ over_tasks p (ceiling_at p)
  caps = sum-is p (λ (v : View). v.cap) (λ (w : Work). sum_by (ceiling_at p w.search) (shards_in w.runs)) (λ w a h. h.charge.cap) rs c.taken.carried ∙ works-sum p ws c.all.tasks (ceiling_at p)

  pub whole-cap : new.view.cap ≡ new.view.total
  whole-cap = let a = c.given.same.cap in let b = c.given.same.total in let d = c.taken.joined.cap in let e = c.taken.joined.total in let f = caps in let g = c.cap in omega (arith, a, b, d, e, f, g)

  -- what a result tells
  told-by : (r : Result) → IsCarried p r.work r.pass → HasSeen joined.view r.pass.view → IsResultOf p r.work.search new.view r.work
  told-by r h seen = record {
    allowed = h.runs.allowed;
    told = all-weaker (IsSeen p.words.limits r.pass.view) (IsTold p.words.limits new.view) (λ t k. record {
      breaker = k.breaker;
      limit = k.limit;
      above = k.above;
      most = (let a = k.seen in let b = seen t.which in let e = c.given.seen t.which in let m = c.seen whole-cap t.which in omega (arith, a, b, e, m));
    }) (told_by r.work.refused r.work.runs) h.charge.told;
    whole = h.whole;
    fits = h.fits;
  }

  results : (qs : List Result) → AreCarried p qs → AllByRecursion (HasSeen joined.view) (views_in qs) → AllByRecursion (λ (w : Work). IsResultOf p w.search new.view w) (works_in qs)
  results [] h k = tt
  results (r ∷ qs) h k = (told-by r h.0 k.0, results qs h.1 k.1)

  pub known : AllByRecursion (λ (w : Work). IsResultOf p w.search new.view w) ws
  known = results rs c.taken.carried c.taken.joined.seen

  module _ (q : ℕ) (low : q < length p.searches) (d : SearchEnd) where
    abbrev e : SearchEnd
    e = slice_index_or es q d

    abbrev g : Gathered
    g = slice_index_or gs q no_results

    pub gathered : IsGathered (works_of q ws) g
    gathered = c.taken.gathered.each q low

    pub end : IsEndOf g e
    end = end-at gs es c.ends q d (let n = c.taken.gathered.number in omega (arith, low, n))

    ascending : AreFailures (shard_count p) e.failures
    ascending = failures-ascend (shard_count p) e.failures end.ascending
        (λ k. let a = end-failed k (works_of q ws) g e gathered end in let b = works-shard-apart p ws c.all.tasks q low k in omega (arith, a, b))
        (λ k h. let a = end-failed k (works_of q ws) g e gathered end in let b = times-above (shard_count p) k (flat_map (λ (w : Work). shards_in w.runs) (works_of q ws)) h (works-within p ws c.all.tasks q) in omega (arith, a, b))

    of-q : AllByRecursion (IsResultOf p q new.view) (works_of q ws)
    of-q = of-search (λ k w. IsResultOf p k new.view w) q ws known

    left : is_stopped e ≡ false → IsPermutation (unfailed p.index e.failures) (flat_map (λ (w : Work). left_in w.runs) (works_of q ws))
    left h = works-left p ws c.all.tasks q low e.failures
        (subst (λ fs. IsPermutation fs e.failures) (sym (failures-joined q ws)) (same-failures p q size new.view (works_of q ws) of-q (c.all.some q) (c.all.count q low) (c.all.skipped q) g gathered e end h))

    pub search-ends : MayEnd p q size new.view e
    search-ends = may-end p q size new.view (works_of q ws) of-q (c.all.some q) (c.all.count q low) (c.all.skipped q) g gathered e end ascending left
