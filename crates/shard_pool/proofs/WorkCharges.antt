-- What the merges of a search's batches in a closed table are charged.
use Rattle.std.specs.Prelude.{◌≡◌, refl, ℕ, ◌+◌, ◌-◌, ◌≤◌, ◌<◌, nat_lt, if◌then◌else◌, List, [], ◌∷◌, flat_map, length, map, sum, sum_by, IsPermutation}
use Rattle.std.specs.List.{range_with_len}
use Rattle.std.proofs.Common.{sym, ◌∙◌, subst, arith}
use Rattle.std.proofs.lemmas.Bool.{lt-ltb, le-ltb}
use Rattle.std.proofs.lemmas.List.{length-map}
use Rattle.std.proofs.lemmas.List.FromFn.{length-map-range_with_len}
use Rattle.std.proofs.lemmas.List.Sums.{sum-map}
use Rattle.std.proofs.lemmas.List.Sorted.{IsPermutation-map, sum_by-IsPermutation}
use mathlib.Core.Logic.{dite}
use native.Mathlib.Decide.{dec_lt}
use Rattle.list_laws.proofs.Lists.{flat_map-map, joined, map-flat_map, map-map, sum_by-map}
use Rattle.agg_evaluation.specs.Cost.{cost}
use Rattle.agg_evaluation.specs.Shard.{shard_answer}
use Rattle.agg_evaluation.specs.Ceiling.{greatest_of}
use Rattle.agg_spec.specs.Index.{rows_in}
use Rattle.agg_spec.specs.Rises.{gross_sum, merge_charge, task_costs}
use Rattle.arrival_moves.specs.declared.plan.Plan.{Plan}
use Rattle.arrival_table.specs.declared.table.Merged.{Merged}
use Rattle.pool_results.specs.Pools.{Pool, cost_at, gross_at, search_at, shard_count}
use Rattle.pool_results.specs.Runs.{shards_in}
use Rattle.pool_results.specs.declared.shard_run.ShardRun.{ShardRun}
use Rattle.pool_results.specs.declared.work.Work.{Work}
use Rattle.shard_pool.specs.Batches.{AreFull, batch_count}
use Rattle.shard_pool.specs.Closed.{AreClosed, IsPlanOf, works, works_of}
use Rattle.shard_pool.proofs.Batches.{has-batch}
use Rattle.shard_pool.proofs.Charges.{batch-alone, batches-most, greatest-rearranged, merge-rearranged}
use Rattle.shard_pool.proofs.Works.{have-each-task, works-shards}
use Rattle.shard_pool.proofs.WorkBatches.{works-count, works-full}

fuller : (a b : ℕ) → a ≤ b → (ns : List ℕ) → AreFull b ns → AreFull a ns
fuller a b h [] f = tt
fuller a b h (n ∷ []) f = tt
fuller a b h (n ∷ m ∷ ns) f = (let k = f.0 in omega (arith, h, k), fuller a b h (m ∷ ns) f.1)

count-one : (n size : ℕ) → 1 ≤ size → n ≤ size → batch_count n size ≤ 1
count-one n size some h = dite (dec_lt 1 (batch_count n size))
    (λ more. let a = has-batch size n some 1 more in absurd (omega (arith, a, h)))
    (λ few. omega (arith, few))

lengths : (cost : ℕ → ℕ) (ws : List Work) → map length (map (λ (w : Work). map cost (shards_in w.runs)) ws) ≡ map (λ (w : Work). length w.runs) ws
lengths cost [] = refl
lengths cost (w ∷ ws) =
    let here : length (map cost (shards_in w.runs)) ≡ length w.runs = length-map (shards_in w.runs) cost ∙ length-map w.runs (λ (r : ShardRun). r.shard) in
    λ i. here i ∷ lengths cost ws i

-- the costs of a search's tasks, and what they charge, as a round counts them
pub costs-are : (p : Pool) (q : ℕ) → map (cost_at p q) (range_with_len 0 (shard_count p)) ≡ task_costs p.index (search_at p q)
costs-are p q = sym (map-map cost (λ shard. shard_answer (search_at p q) (rows_in p.index shard)) (range_with_len 0 (shard_count p)))

pub gross-are : (p : Pool) (q : ℕ) → sum_by (gross_at p q) (range_with_len 0 (shard_count p)) ≡ gross_sum p.index (search_at p q)
gross-are p q = sym (sum-map (gross_at p q) (range_with_len 0 (shard_count p)))

module _ (p : Pool) (size : ℕ) (big : 2 ≤ size) (plan : Plan) (of : IsPlanOf p size plan) {R : Type 0} (work : R → Work) (ms : List (Merged R)) (closed : AreClosed work p plan ms)
    (q : ℕ) (low : q < length p.searches) (cost : ℕ → ℕ) where
  abbrev batches : List Work
  batches = works_of q (works work ms)

  abbrev batch_costs : List (List ℕ)
  batch_costs = map (λ (w : Work). map cost (shards_in w.runs)) batches

  abbrev costs : List ℕ
  costs = map cost (range_with_len 0 (shard_count p))

  abbrev charge : ℕ
  charge = sum_by (λ (w : Work). merge_charge (map cost (shards_in w.runs))) batches

  charge-is : sum_by merge_charge batch_costs ≡ charge
  charge-is = sum_by-map merge_charge (λ (w : Work). map cost (shards_in w.runs)) batches

  rearranged : IsPermutation (joined batch_costs) costs
  rearranged = subst (λ ns. IsPermutation ns costs)
      (map-flat_map cost (λ (w : Work). shards_in w.runs) batches ∙ sym (flat_map-map (λ (w : Work). map cost (shards_in w.runs)) (λ ns. ns) batches))
      (IsPermutation-map cost (flat_map (λ (w : Work). shards_in w.runs) batches) (range_with_len 0 (shard_count p))
      (works-shards p (works work ms) (have-each-task p work size plan of ms closed) q low))

  -- all costs but the greatest at least
  pub charge-most : sum costs ≤ charge + greatest_of costs
  charge-most =
      let full = subst (AreFull 2) (sym (lengths cost batches)) (fuller 2 size big (map (λ (w : Work). length w.runs) batches) (works-full p size big plan of work ms closed q low)) in
      let a = batches-most batch_costs full in let b = charge-is in
      let c = sum_by-IsPermutation (λ n. n) (joined batch_costs) costs rearranged in let d = greatest-rearranged (joined batch_costs) costs rearranged in
      omega (arith, a, b, c, d)

  -- where one batch has all tasks, it is what one merge of all is charged
  pub charge-alone : shard_count p ≤ size → charge ≡ merge_charge costs
  charge-alone h =
      let few : length batch_costs ≤ 1 =
      (let a = length-map batches (λ (w : Work). map cost (shards_in w.runs)) in let b = works-count p size big plan of work ms closed q low in
      let c = count-one (shard_count p) size (omega (arith, big)) h in omega (arith, a, b, c)) in
      sym charge-is ∙ batch-alone batch_costs few ∙ merge-rearranged (joined batch_costs) costs rearranged

  -- either way
  pub charge-least : (if nat_lt size (length costs) then sum costs - greatest_of costs else merge_charge costs) ≤ charge
  charge-least = let l = length-map-range_with_len cost 0 (shard_count p) in dite (dec_lt size (length costs))
      (λ h. subst (λ b. (if b then sum costs - greatest_of costs else merge_charge costs) ≤ charge) (sym (lt-ltb size (length costs) h)) (let a = charge-most in omega (arith, a)))
      (λ h. subst (λ b. (if b then sum costs - greatest_of costs else merge_charge costs) ≤ charge) (sym (le-ltb size (length costs) (omega (arith, h)))) (let a = charge-alone (omega (arith, h, l)) in omega (arith, a)))
