-- The answers of shards that stand each once are parts of a merge.
use Rattle.std.specs.Prelude.{◌≡◌, refl, ◌≤◌, ◌<◌, ℕ, ◌*◌, ◌&&◌, ◌≤ℤ◌, ℤ, pos, unsigned_abs, take, true, List, [], ◌∷◌, ◌++◌, map, length, sum_by, IsTrue}
use Rattle.std.specs.List.{AllByRecursion, list_all}
use Rattle.std.proofs.Common.{sym, ◌∙◌, ap, subst, arith}
use Rattle.std.proofs.lemmas.Int.{ints}
use Rattle.std.proofs.lemmas.List.{take_all}
use Rattle.std.proofs.lemmas.List.Sums.{sum_by-cons}
use Rattle.list_laws.specs.Among.{AreAmong}
use Rattle.list_laws.proofs.Among.{among-part}
use Rattle.list_laws.proofs.Booleans.{true_is}
use Rattle.list_laws.proofs.Lists.{map-apart}
use Rattle.agg_evaluation.proofs.TreeLaws.{shard_answer-is_result}
use Rattle.agg_evaluation.specs.Cost.{cost}
use Rattle.agg_evaluation.specs.Shard.{int_sum, shard_answer}
use Rattle.agg_evaluation.specs.Trace.{peak, trace}
use Rattle.agg_evaluation.specs.Trees.{is_result_of, numbers_fit}
use Rattle.agg_evaluation.specs.Whole.{whole}
use Rattle.agg_model.specs.declared.partial.Partial.{Partial}
use Rattle.agg_spec.specs.Index.{rows_in}
use Rattle.agg_spec.specs.Outcome.{shard_answers}
use Rattle.batch_reduce.specs.Parts.{AreParts, cost_of_parts}
use Rattle.evaluation_laws.proofs.TraceLaws.{trace-total}
use Rattle.growth_laws.proofs.Sums.{sum-peak}
use Rattle.pool_results.specs.Pools.{IsPool, Pool, ceiling_at, cost_at, peak_at, search_at, shard_count}

module _ (p : Pool) (good : IsPool p) (q : ℕ) (there : q < length p.searches) where
  abbrev answers : List ℕ → List Partial
  answers ns = shard_answers p.index (search_at p q) ns

  all-results : (ns : List ℕ) → list_all (is_result_of (search_at p q)) (answers ns) ≡ true
  all-results [] = refl
  all-results (n ∷ ns) = ap (λ b. b && list_all (is_result_of (search_at p q)) (answers ns)) (true_is _ (shard_answer-is_result (search_at p q) (rows_in p.index n))) ∙ all-results ns

  pub answers-parts : (ns : List ℕ) → AreAmong (shard_count p) ns → AreParts (search_at p q) (answers ns)
  answers-parts ns among = record {
    results = all-results ns;
    fit = λ before some after e.
        (let f = λ (shard : ℕ). shard_answer (search_at p q) (rows_in p.index shard) in
        let two = map-apart f ns (before ++ some) after e in
        let one = map-apart f two.0 before some (sym two.1.1.1.0) in
        let within = subst (AreAmong (shard_count p)) (two.1.1.0 ∙ ap (λ xs. xs ++ two.1.0) one.1.1.0) among in
        subst (λ ps. IsTrue (numbers_fit (whole (search_at p q) ps))) (sym one.1.1.1.1)
        (good.fit q one.1.0 there (among-part (shard_count p) one.0 one.1.0 two.1.0 within)));
  }

  -- their costs, by shard
  pub costs-are : (ns : List ℕ) → cost_of_parts (answers ns) ≡ sum_by (cost_at p q) ns
  costs-are [] = refl
  costs-are (n ∷ ns) =
      let rest = costs-are ns in
      let a = sum_by-cons cost (shard_answer (search_at p q) (rows_in p.index n)) (answers ns) in
      let b = sum_by-cons (cost_at p q) n ns in
      omega (arith, rest, a, b)

  -- twice the costs are within the ceilings
  pub below-ceilings : (ns : List ℕ) → AllByRecursion (λ s. s < shard_count p) ns → 2 * sum_by (cost_at p q) ns ≤ sum_by (ceiling_at p q) ns
  below-ceilings [] h = omega arith
  below-ceilings (n ∷ ns) h =
      let rest = below-ceilings ns h.1 in
      let here = good.answers q n (record { search = there; shard = h.0 }) in
      let a = sum_by-cons (cost_at p q) n ns in
      let b = sum_by-cons (ceiling_at p q) n ns in
      omega (arith, rest, here, a, b)

-- a number below a whole number is below its size
pub below-size : (m : ℕ) (z : ℤ) → pos m ≤ℤ z → m ≤ unsigned_abs z
below-size m z h = grind (arith, ints)

-- what an answer costs a task has held
pub cost-peak : (p : Pool) (q s : ℕ) → cost_at p q s ≤ peak_at p q s
cost-peak p q s =
    let search = search_at p q in let rows = rows_in p.index s in
    let top = sum-peak search rows (length (trace search rows)) in
    let all : int_sum (take (length (trace search rows)) (trace search rows)) ≡ int_sum (trace search rows) = ap int_sum (take_all (length (trace search rows)) (trace search rows) (omega arith)) in
    let total = trace-total search rows in
    below-size (cost_at p q s) (peak search rows) (omega (arith, ints, top, all, total))

pub costs-peaks : (p : Pool) (q : ℕ) (ns : List ℕ) → sum_by (cost_at p q) ns ≤ sum_by (peak_at p q) ns
costs-peaks p q [] = omega arith
costs-peaks p q (n ∷ ns) =
    let rest = costs-peaks p q ns in let here = cost-peak p q n in
    let a = sum_by-cons (cost_at p q) n ns in let b = sum_by-cons (peak_at p q) n ns in
    omega (arith, rest, here, a, b)
