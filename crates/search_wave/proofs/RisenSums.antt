-- Sums over searches by their places in a pool.
use Rattle.std.specs.Prelude.{◌≡◌, refl, ℕ, zero, suc, ◌+◌, List, [], ◌∷◌, length, sum_by, slice_index_or}
use Rattle.std.specs.List.{range_with_len}
use Rattle.std.proofs.Common.{ap, arith}
use Rattle.std.proofs.lemmas.List.Sums.{sum_by-cons}
use Rattle.list_laws.proofs.Sums.{sum_by-plus}
use Rattle.agg_model.specs.declared.aggregation.Search.{Search}
use Rattle.agg_spec.specs.Index.{Index}
use Rattle.agg_spec.specs.Rises.{gross_sum, task_costs}
use Rattle.shard_pool.proofs.WorkCharges.{costs-are, gross-are}
use Rattle.pool_results.specs.Pools.{Pool, gross_at, no_search, search_at, shard_count}
use Rattle.shard_pool.specs.Ends.{least_for_batches, least_granted, task_costs as pool_costs}

-- the same number of each
pub sum-same : {A : Type 0} (f g : A → ℕ) → ((x : A) → f x ≡ g x) → (xs : List A) → sum_by f xs ≡ sum_by g xs
sum-same f g e xs = λ i. sum_by (λ x. e x i) xs

-- from the next place on
sum-next : (f : ℕ → ℕ) (a n : ℕ) → sum_by f (range_with_len (a + 1) n) ≡ sum_by (λ q. f (suc q)) (range_with_len a n)
sum-next f a zero = refl
sum-next f a (suc n) =
    let l = sum_by-cons f (a + 1) (range_with_len (a + 1 + 1) n) in let r = sum_by-cons (λ q. f (suc q)) a (range_with_len (a + 1) n) in
    let rest = sum-next f (a + 1) n in let here : f (a + 1) ≡ f (suc a) = ap f (let e : a + 1 ≡ suc a = omega arith in e) in
    omega (arith, l, r, rest, here)

-- over all places, and over the list
pub sum-places : {A : Type 0} (f : A → ℕ) (d : A) (xs : List A) → sum_by (λ q. f (slice_index_or xs q d)) (range_with_len 0 (length xs)) ≡ sum_by f xs
sum-places f d [] = refl
sum-places f d (x ∷ xs) =
    let l = sum_by-cons (λ q. f (slice_index_or (x ∷ xs) q d)) 0 (range_with_len (0 + 1) (length xs)) in
    let r = sum_by-cons f x xs in let on = sum-next (λ q. f (slice_index_or (x ∷ xs) q d)) 0 (length xs) in let rest = sum-places f d xs in
    omega (arith, l, r, on, rest)

-- the least that a search's tasks and the merges of its batches are granted
abbrev pub least_of : Index → ℕ → Search → ℕ
least_of index size search = gross_sum index search + least_for_batches size (task_costs index search)

pub least-granted : (p : Pool) (size : ℕ) → least_granted p size ≡ sum_by (least_of p.index size) p.searches
least-granted p size =
    let places : List ℕ = range_with_len 0 (length p.searches) in
    let gross = sum-same (λ q. sum_by (gross_at p q) (range_with_len 0 (shard_count p))) (λ q. gross_sum p.index (search_at p q)) (gross-are p) places in
    let merges = sum-same (λ q. least_for_batches size (pool_costs p q)) (λ q. least_for_batches size (task_costs p.index (search_at p q))) (λ q. ap (least_for_batches size) (costs-are p q)) places in
    let a = sum-places (gross_sum p.index) no_search p.searches in
    let b = sum-places (λ search. least_for_batches size (task_costs p.index search)) no_search p.searches in
    let both = sum_by-plus (gross_sum p.index) (λ search. least_for_batches size (task_costs p.index search)) p.searches in
    omega (arith, gross, merges, a, b, both)
