-- What the parts of a search cost is at most what its tasks held at most.
use Rattle.std.specs.Prelude.{◌≡◌, refl, ◌≤◌, ℕ, not, Bool, true, false, T, List, [], ◌∷◌, flat_map, length, sum_by}
use Rattle.std.specs.List.{AllByRecursion, list_all}
use Rattle.std.proofs.Common.{ap, ◌∙◌, arith}
use Rattle.std.proofs.lemmas.List.Sorted.{sum_by-IsPermutation}
use Rattle.std.proofs.lemmas.List.Sums.{sum_by-cons}
use Rattle.list_laws.proofs.Among.{sum-filter}
use Rattle.list_laws.proofs.Booleans.{both}
use Rattle.list_laws.proofs.Lists.{sum_by-flat_map, sum_by-map}
use Rattle.agg_evaluation.proofs.TreeLaws.{shard_answer-is_result}
use Rattle.agg_evaluation.specs.Cost.{cost}
use Rattle.agg_evaluation.specs.Shard.{shard_answer}
use Rattle.agg_evaluation.specs.Trees.{is_result_of}
use Rattle.agg_model.specs.declared.aggregation.Search.{Search}
use Rattle.agg_spec.specs.Failures.{has_failed, unfailed}
use Rattle.agg_spec.specs.Index.{Index, rows_in, shard_numbers}
use Rattle.agg_spec.specs.Outcome.{shard_answers, whole_of}
use Rattle.breaker_words.specs.declared.view.View.{View}
use Rattle.evaluation_laws.proofs.SearchCosts.{whole-saves}
use Rattle.pool_results.proofs.Parts.{costs-peaks}
use Rattle.shard_pool.specs.Ends.{HasParts, MayEnd, is_stopped}
use Rattle.shard_pool.specs.declared.search_end.SearchEnd.{SearchEnd}
use Rattle.pool_results.specs.Pools.{Pool, cost_at, peak_at, search_at}

module _ (index : Index) (search : Search) where
  abbrev shard_cost : ℕ → ℕ
  shard_cost shard = cost (shard_answer search (rows_in index shard))

  all-results : (ns : List ℕ) → T (list_all (is_result_of search) (shard_answers index search ns))
  all-results [] = tt
  all-results (n ∷ ns) = both _ _ (shard_answer-is_result search (rows_in index n)) (all-results ns)

  -- a group that is not empty costs at most what its shards' answers cost
  group-saves : (ns : List ℕ) → 1 ≤ length ns → cost (whole_of index search ns) ≤ sum_by shard_cost ns
  group-saves [] some = absurd (omega (arith, some))
  group-saves (n ∷ ns) some =
      let saved = whole-saves search (shard_answer search (rows_in index n)) (shard_answers index search ns) (all-results (n ∷ ns)) in
      let a = sum_by-map cost (λ shard. shard_answer search (rows_in index shard)) (n ∷ ns) in
      omega (arith, saved, a)

  pub groups-save : (groups : List (List ℕ)) → AllByRecursion (λ (g : List ℕ). 1 ≤ length g) groups
      → sum_by (λ (g : List ℕ). cost (whole_of index search g)) groups ≤ sum_by (λ (g : List ℕ). sum_by shard_cost g) groups
  groups-save [] h = omega arith
  groups-save (g ∷ groups) h =
      let a = sum_by-cons (λ (k : List ℕ). cost (whole_of index search k)) g groups in let b = sum_by-cons (λ (k : List ℕ). sum_by shard_cost k) g groups in
      let here = group-saves g h.0 in let rest = groups-save groups h.1 in
      omega (arith, a, b, here, rest)

module _ (p : Pool) (q size : ℕ) (e : SearchEnd) where
  parts-cost : HasParts p q size e → sum_by cost e.parts ≤ sum_by (peak_at p q) (shard_numbers p.index)
  parts-cost parts =
      let whole = whole_of p.index (search_at p q) in
      let a = ap (sum_by cost) parts.parts ∙ sum_by-map cost whole parts.groups in
      let b = groups-save p.index (search_at p q) parts.groups parts.some in
      let c = sum_by-flat_map (cost_at p q) (λ (g : List ℕ). g) parts.groups in
      let d = sum_by-IsPermutation (cost_at p q) (unfailed p.index e.failures) (flat_map (λ (g : List ℕ). g) parts.groups) parts.each in
      let f = sum-filter (cost_at p q) (λ shard. not (has_failed e.failures shard)) (shard_numbers p.index) in
      let g = costs-peaks p q (shard_numbers p.index) in
      omega (arith, a, b, c, d, f, g)

  pub end-cost : (view : View) → MayEnd p q size view e → sum_by cost e.parts ≤ sum_by (peak_at p q) (shard_numbers p.index)
  end-cost view end = by_stop (is_stopped e) refl
    where
      by_stop : (b : Bool) → is_stopped e ≡ b → sum_by cost e.parts ≤ sum_by (peak_at p q) (shard_numbers p.index)
      by_stop true s = let a = ap (sum_by cost) (end.stopped s) in omega (arith, a)
      by_stop false s = parts-cost (end.parts s)
