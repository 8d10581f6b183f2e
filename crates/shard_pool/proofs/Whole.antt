-- The results that a close gives are all.
use Rattle.std.specs.Prelude.{◌≡◌, refl, ◌≤◌, ◌<◌, ℕ, suc, ◌+◌, true, false, List, [], ◌∷◌, length, sum_by, slice_index_or, if◌then◌else◌}
use Rattle.std.specs.List.{AllByRecursion, range_with_len}
use Rattle.std.proofs.Common.{sym, ap, subst, arith}
use Rattle.std.proofs.lemmas.List.Sums.{sum_by-cons}
use Rattle.agg_model.specs.declared.breaker.Child.TheVariants as child
use Rattle.agg_model.specs.declared.breaker.Which.{Which}
use Rattle.agg_model.specs.declared.breaker.Which.TheVariants.{Request}
use Rattle.arrival_moves.specs.declared.plan.Plan.{Plan}
use Rattle.arrival_table.specs.declared.table.Merged.{Merged}
use Rattle.breaker_tree.specs.Charge.{IsGivenBack}
use Rattle.breaker_words.specs.Passes.{IsOf, PassModel, WordsModel}
use Rattle.breaker_words.specs.Soundness.{IsBounded}
use Rattle.breaker_words.specs.Views.{hold_of, most_of, seen_of}
use Rattle.breaker_words.specs.declared.view.View.{View}
use Rattle.shard_pool.specs.Closed.{AreClosed, HaveAllTasks, IsPlanOf, works, works_of}
use Rattle.shard_pool.proofs.Skipped.{none-skipped}
use Rattle.shard_pool.proofs.WorkBatches.{works-count, works-some}
use Rattle.shard_pool.proofs.WorkCharges.{charge-alone, charge-most}
use Rattle.shard_pool.proofs.Works.{have-each-task, works-by-search}
use Rattle.pool_results.specs.Carried.{AreRuns}
use Rattle.pool_results.specs.Pools.{Pool, ceiling_at, cost_at}
use Rattle.pool_results.specs.declared.work.Work.{Work}
use Rattle.shard_pool.specs.Ends.{over_tasks}
use Rattle.shard_pool.specs.Gathered.{IsGathered, bytes_of, is_stopped, lost, no_results}
use Rattle.shard_pool.specs.Results.{AreCarried, Result, results_of, works_in}
use Rattle.shard_pool.specs.Settled.{AreEnds}
use Rattle.shard_pool.specs.declared.gathered.Gathered.{Gathered}
use Rattle.shard_pool.specs.declared.search_end.SearchEnd.{SearchEnd}
use Rattle.shard_pool.proofs.Known.{AreAll, IsClosed}
use Rattle.shard_pool.proofs.Taking.{AreTaken, bytes-held}

works-same : {R : Type 0} (ms : List (Merged R)) (f : R → Result) → works (λ o. (f o).work) ms ≡ works_in (results_of ms f)
works-same [] f = refl
works-same (m ∷ ms) f = ap (λ ws. (f m.result).work ∷ ws) (works-same ms f)

pub carried-runs : (p : Pool) {R : Type 0} (ms : List (Merged R)) (f : R → Result) → AreCarried p (results_of ms f) → AllByRecursion (λ (m : Merged R). AreRuns p (f m.result).work.search (f m.result).work.runs) ms
carried-runs p [] f h = tt
carried-runs p (m ∷ ms) f h = (h.0.runs, carried-runs p ms f h.1)

pub all-closed : (p : Pool) (size : ℕ) → 2 ≤ size → (plan : Plan) → IsPlanOf p size plan → {R : Type 0} (ms : List (Merged R)) (f : R → Result) → AreClosed (λ o. (f o).work) p plan ms → AreAll p size (works_in (results_of ms f))
all-closed p size big plan of ms f closed = subst (AreAll p size) (works-same ms f) (record {
  tasks = have-each-task p (λ o. (f o).work) size plan of ms closed;
  some = works-some p size big plan of (λ o. (f o).work) ms closed;
  count = works-count p size big plan of (λ o. (f o).work) ms closed;
  skipped = none-skipped p size big plan of (λ o. (f o).work) ms closed;
  charge = λ q low. charge-most p size big plan of (λ o. (f o).work) ms closed q low (cost_at p q);
  alone = λ q low. charge-alone p size big plan of (λ o. (f o).work) ms closed q low (cost_at p q);
})

-- what is given back is held
lost-one : (g : Gathered) → lost g ≤ g.held
lost-one g = elim (is_stopped g) as (λ b. (if b then g.held else 0) ≤ g.held) [ true ↦ omega arith | false ↦ omega arith ]

lost-most : (W : ℕ → List Work) (a : ℕ) (gs : List Gathered) → ((j : ℕ) → j < length gs → IsGathered (W (a + j)) (slice_index_or gs j no_results)) → sum_by lost gs ≤ sum_by (λ q. sum_by bytes_of (W q)) (range_with_len a (length gs))
lost-most W a [] h = omega arith
lost-most W a (g ∷ gs) h =
    let l = sum_by-cons lost g gs in let r = sum_by-cons (λ q. sum_by bytes_of (W q)) a (range_with_len (a + 1) (length gs)) in let one = lost-one g in
    let is : IsGathered (W a) g = subst (λ k. IsGathered (W k) g) (let e : a + 0 ≡ a = omega arith in e) (h 0 (omega arith)) in let held = is.held in
    let rest = lost-most W (a + 1) gs (λ j low. subst (λ k. IsGathered (W k) (slice_index_or gs j no_results)) (let e : a + suc j ≡ a + 1 + j = omega arith in e) (h (suc j) (omega (arith, low)))) in
    omega (arith, l, r, one, held, rest)

pub lost-held : (p : Pool) (old : View) (rs : List Result) (now : PassModel) (gs : List Gathered) → AreTaken p old rs now gs → HaveAllTasks p (works_in rs) → sum_by lost gs ≤ hold_of now.view Request
lost-held p old rs now gs t tasks =
    let number = t.gathered.number in
    let a = lost-most (λ q. works_of q (works_in rs)) 0 gs (λ j low. subst (λ k. IsGathered (works_of k (works_in rs)) (slice_index_or gs j no_results)) (let e : j ≡ 0 + j = omega arith in e) (t.gathered.each j (omega (arith, low, number)))) in
    let same = ap (λ k. sum_by (λ q. sum_by bytes_of (works_of q (works_in rs))) (range_with_len 0 k)) number in
    let b = works-by-search p (works_in rs) tasks bytes_of in let d = bytes-held p rs t.carried in let e = t.joined.holds Request in
    omega (arith, a, same, b, d, e)

pub closed-tasks : (p : Pool) (size : ℕ) (plan : Plan) → IsPlanOf p size plan → {R : Type 0} (ms : List (Merged R)) (f : R → Result) → AreClosed (λ o. (f o).work) p plan ms → HaveAllTasks p (works_in (results_of ms f))
closed-tasks p size plan of ms f closed = subst (HaveAllTasks p) (works-same ms f) (have-each-task p (λ o. (f o).work) size plan of ms closed)

-- all that is known when the searches were settled
pub is-closed : (p : Pool) (b : WordsModel) → b ≡ p.words → (plan : Plan) → 2 ≤ plan.batch → IsPlanOf p plan.batch plan → {R : Type 0} (ms : List (Merged R)) (f : R → Result) → AreClosed (λ o. (f o).work) p plan ms
    → (before first joined settled : PassModel) (gs : List Gathered) (es : List SearchEnd) → first ≡ before → before.view.cap + over_tasks p (ceiling_at p) ≡ before.view.total
    → AreTaken p first.view (results_of ms f) joined gs → IsOf b settled → IsGivenBack joined.view child.Request (sum_by lost gs) settled.view → AreEnds gs es → IsBounded b.limits before.view → IsBounded b.limits settled.view
    → (settled.view.cap ≡ settled.view.total → (x : Which) → seen_of settled.view x ≤ most_of settled.view x) → IsClosed p plan.batch first.view (results_of ms f) joined gs settled es
is-closed p b words plan big of ms f closed before first joined settled gs es same cap taken own given ends low high seen = record {
  taken = taken;
  all = all-closed p plan.batch big plan of ms f closed;
  cap = subst (λ (a : PassModel). a.view.cap + over_tasks p (ceiling_at p) ≡ a.view.total) (sym same) cap;
  of = subst (λ w. IsOf w settled) words own;
  given = given;
  ends = ends;
  before = subst (λ (a : PassModel). IsBounded p.words.limits a.view) (sym same) (subst (λ (w : WordsModel). IsBounded w.limits before.view) words low);
  after = subst (λ (w : WordsModel). IsBounded w.limits settled.view) words high;
  seen = seen;
}
