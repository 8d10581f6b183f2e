-- What the last merge of a search is charged beside the merges of its batches.
use Rattle.std.specs.Prelude.{◌≡◌, refl, ℕ, ◌+◌, ◌-◌, ◌≤◌, ◌<◌, T, if◌then◌else◌, zero, suc, List, [], ◌∷◌, ◌++◌, length, map, sum, sum_by, Some, IsPermutation}
use Rattle.std.specs.List.{list_all}
use Rattle.std.proofs.Common.{sym, ap, ◌∙◌, arith}
use Rattle.std.proofs.Math.Nat.{div-zero}
use Rattle.std.proofs.lemmas.Bool.{lt-ltb, le-ltb}
use Rattle.std.proofs.lemmas.List.{length-map}
use Rattle.std.proofs.lemmas.List.FromFn.{length-map-range_with_len, length-range_with_len}
use Rattle.std.proofs.lemmas.List.Sorted.{IsPermutation-map, length_permutation}
use Rattle.std.proofs.lemmas.List.Sums.{sum-map}
use mathlib.Core.Logic.{dite}
use native.Mathlib.Decide.{dec_lt}
use Rattle.list_laws.proofs.Booleans.{both}
use Rattle.list_laws.proofs.Lists.{joined, map-append, map-map}
use Rattle.agg_evaluation.proofs.SearchLaws.{whole-any_order, whole-is_result, whole-unites}
use Rattle.agg_evaluation.specs.Ceiling.{greatest_of}
use Rattle.agg_evaluation.specs.Cost.{cost}
use Rattle.agg_evaluation.specs.Shard.{shard_answer}
use Rattle.agg_evaluation.specs.Trees.{is_result_of}
use Rattle.agg_evaluation.specs.Whole.{whole}
use Rattle.agg_model.specs.declared.aggregation.Search.{Search}
use Rattle.agg_spec.specs.Index.{Index, rows_in, shard_numbers}
use Rattle.agg_spec.specs.Outcome.{shard_answers, whole_of}
use Rattle.agg_spec.specs.Rises.{least_merge_charge, merge_charge, task_costs}
use Rattle.agg_spec.specs.Wave.{result_cost}
use Rattle.shard_pool.proofs.Batches.{has-batch, has-no-batch}
use Rattle.shard_pool.proofs.Charges.{merge-long, merge-short}
use Rattle.shard_pool.specs.Batches.{batch_count}
use Rattle.evaluation_laws.proofs.SearchCosts.{whole-saves}
use Rattle.shard_pool.specs.Ends.{least_for_batches}

module _ (index : Index) (search : Search) where
  all-results : (groups : List (List ℕ)) → T (list_all (is_result_of search) (map (whole_of index search) groups))
  all-results [] = tt
  all-results (g ∷ gs) = both _ _ (whole-is_result search (shard_answers index search g)) (all-results gs)

  joined-answers : (groups : List (List ℕ)) → joined (map (shard_answers index search) groups) ≡ shard_answers index search (joined groups)
  joined-answers [] = refl
  joined-answers (g ∷ gs) =
      ap (λ ps. shard_answers index search g ++ ps) (joined-answers gs) ∙ sym (map-append (λ (shard : ℕ). shard_answer search (rows_in index shard)) g (joined gs))

  -- the whole of wholes
  pub whole-joined : (groups : List (List ℕ)) → whole search (map (whole_of index search) groups) ≡ whole_of index search (joined groups)
  whole-joined groups =
      ap (whole search) (sym (map-map (whole search) (shard_answers index search) groups))
      ∙ whole-unites search (map (shard_answers index search) groups)
      ∙ ap (whole search) (joined-answers groups)

  pub whole-rearranged : (ns : List ℕ) (groups : List (List ℕ)) → IsPermutation ns (joined groups) → whole_of index search ns ≡ whole search (map (whole_of index search) groups)
  whole-rearranged ns groups p =
      whole-any_order search (shard_answers index search ns) (shard_answers index search (joined groups)) (IsPermutation-map (λ shard. shard_answer search (rows_in index shard)) ns (joined groups) p)
      ∙ sym (whole-joined groups)

  -- the whole costs no more than its parts
  pub parts-cost : (ns : List ℕ) (groups : List (List ℕ)) → 1 ≤ length groups → IsPermutation ns (joined groups) → cost (whole_of index search ns) ≤ sum_by cost (map (whole_of index search) groups)
  parts-cost ns [] some p = absurd (omega (arith, some))
  parts-cost ns (g ∷ gs) some p =
      let saved = whole-saves search (whole_of index search g) (map (whole_of index search) gs) (all-results (g ∷ gs)) in
      let same = ap cost (whole-rearranged ns (g ∷ gs) p) in
      omega (arith, saved, same)

  abbrev costs : List ℕ
  costs = task_costs index search

  abbrev n : ℕ
  n = length index.shards

  costs-length : length costs ≡ n
  costs-length = length-map (shard_answers index search (shard_numbers index)) cost ∙ length-map-range_with_len (λ shard. shard_answer search (rows_in index shard)) 0 n

  abbrev result : ℕ
  result = result_cost index (Some search) (shard_numbers index)

  module _ (size : ℕ) where
    least-many : size < n → (least_merge_charge size result costs ≡ sum costs - greatest_of costs + result) × (least_for_batches size costs ≡ sum costs - greatest_of costs)
    least-many h =
        let e = lt-ltb size (length costs) (let k = costs-length in omega (arith, h, k)) in
        (ap (λ b. if b then sum costs - greatest_of costs + result else merge_charge costs) e, ap (λ b. if b then sum costs - greatest_of costs else merge_charge costs) e)

    least-few : n ≤ size → (least_merge_charge size result costs ≡ merge_charge costs) × (least_for_batches size costs ≡ merge_charge costs)
    least-few h =
        let e = le-ltb size (length costs) (let k = costs-length in omega (arith, h, k)) in
        (ap (λ b. if b then sum costs - greatest_of costs + result else merge_charge costs) e, ap (λ b. if b then sum costs - greatest_of costs else merge_charge costs) e)

    -- the least that the merges charge, and what the batches and the last merge were charged
    pub record IsLeastMerge (parts : List ℕ) : Type 0 where
      pub least : least_merge_charge size result costs ≤ least_for_batches size costs + merge_charge parts
      pub exactly : n ≤ size → least_merge_charge size result costs ≡ least_for_batches size costs + merge_charge parts

    module _ (some : 0 < n) (groups : List (List ℕ)) (number : length groups ≡ batch_count n size) (each : IsPermutation (shard_numbers index) (joined groups)) where
      abbrev parts : List ℕ
      parts = map cost (map (whole_of index search) groups)

      parts-length : length parts ≡ length groups
      parts-length = length-map (map (whole_of index search) groups) cost ∙ length-map groups (whole_of index search)

      sized : (k : ℕ) → size ≡ k → 1 ≤ size
      sized zero e = absurd (no_group groups (number ∙ ap (batch_count n) e ∙ div-zero (n + 0 - 1)) each)
        where
          no_group : (gs : List (List ℕ)) → length gs ≡ 0 → IsPermutation (shard_numbers index) (joined gs) → ⊥
          no_group [] l p = let a = length_permutation (shard_numbers index) [] p in let b = length-range_with_len 0 n in omega (arith, a, b, some)
          no_group (g ∷ gs) l p = omega (arith, l)
      sized (suc k) e = omega (arith, e)

      many-parts : size < n → 2 ≤ length groups
      many-parts h = dite (dec_lt (batch_count n size) 2)
          (λ few. let a = has-no-batch size n (sized size refl) 1 (omega (arith, few)) in absurd (omega (arith, a, h)))
          (λ more. omega (arith, more, number))

      one-part : n ≤ size → length groups ≤ 1
      one-part h = dite (dec_lt 1 (batch_count n size))
          (λ more. let a = has-batch size n (sized size refl) 1 more in absurd (omega (arith, a, h)))
          (λ few. omega (arith, few, number))

      pub least-merge : IsLeastMerge parts
      least-merge = record {
        least = dite (dec_lt size n)
            (λ h. (let two = many-parts h in let l = parts-length in let a = least-many h in let b = a.0 in let c = a.1 in
            let d = merge-long parts (omega (arith, two, l)) ∙ sum-map cost (map (whole_of index search) groups) in let e = parts-cost (shard_numbers index) groups (omega (arith, two)) each in
            omega (arith, b, c, d, e)))
            (λ h. (let a = least-few (omega (arith, h)) in let b = a.0 in let c = a.1 in omega (arith, b, c)));
        exactly = λ h. (let one = one-part h in let l = parts-length in let a = least-few h in let b = a.0 in let c = a.1 in let d = merge-short parts (omega (arith, one, l)) in omega (arith, b, c, d));
      }
