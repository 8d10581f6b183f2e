-- What the merges of a search's batches are charged, beside what one merge of all would be.
use Rattle.std.specs.Prelude.{◌≡◌, refl, ℕ, ◌+◌, ◌≤◌, ◌<◌, nat_lt, max, true, false, if◌then◌else◌, List, [], ◌∷◌, ◌++◌, length, map, sum, sum_by, IsPermutation}
use Rattle.std.proofs.Common.{sym, ◌∙◌, ap, arith, ⊎_elim}
use Rattle.std.proofs.lemmas.Bool.{cases_Bool, ltb-true, ltb-false}
use Rattle.std.proofs.lemmas.List.Sums.{sum_by-cons, sum_by-append}
use Rattle.std.proofs.lemmas.List.Sorted.{sum_by-IsPermutation, length_permutation}
use mathlib.Core.Logic.{dite}
use native.Mathlib.Decide.{dec_lt}
use Rattle.list_laws.proofs.Lists.{append-nil, joined}
use Rattle.list_laws.proofs.Permutations.{any_order}
use Rattle.agg_evaluation.specs.Ceiling.{greatest_of}
use Rattle.agg_spec.specs.Rises.{merge_charge}
use Rattle.shard_pool.specs.Batches.{AreFull}

-- the greatest of some numbers
greatest-cons : (n : ℕ) (ns : List ℕ) → greatest_of (n ∷ ns) ≡ max n (greatest_of ns)
greatest-cons n ns = ⊎_elim
    (λ (e : nat_lt n (greatest_of ns) ≡ true). let a : n < greatest_of ns = ltb-true n (greatest_of ns) e in ap (λ b. if b then greatest_of ns else n) e ∙ (let z : greatest_of ns ≡ max n (greatest_of ns) = omega arith in z))
    (λ (e : nat_lt n (greatest_of ns) ≡ false). let a : greatest_of ns ≤ n = ltb-false n (greatest_of ns) e in ap (λ b. if b then greatest_of ns else n) e ∙ (let z : n ≡ max n (greatest_of ns) = omega arith in z))
    (cases_Bool (nat_lt n (greatest_of ns)))

greatest-append : (xs ys : List ℕ) → greatest_of (xs ++ ys) ≡ max (greatest_of xs) (greatest_of ys)
greatest-append [] ys = (let z : greatest_of ys ≡ max 0 (greatest_of ys) = omega arith in z)
greatest-append (x ∷ xs) ys = let a = greatest-cons x (xs ++ ys) in let b = greatest-append xs ys in let c = greatest-cons x xs in omega (arith, a, b, c)

greatest-unites : (xss : List (List ℕ)) → greatest_of (map greatest_of xss) ≡ greatest_of (joined xss)
greatest-unites [] = refl
greatest-unites (xs ∷ xss) = let a = greatest-cons (greatest_of xs) (map greatest_of xss) in let b = greatest-unites xss in let c = greatest-append xs (joined xss) in omega (arith, a, b, c)

-- the order does not matter
pub greatest-rearranged : (xs ys : List ℕ) → IsPermutation xs ys → greatest_of xs ≡ greatest_of ys
greatest-rearranged xs ys p = any_order greatest_of greatest-unites (λ us vs. let a = greatest-append us vs in let b = greatest-append vs us in omega (arith, a, b)) xs ys p

-- what a merge is charged
pub merge-long : (costs : List ℕ) → 2 ≤ length costs → merge_charge costs ≡ sum costs
merge-long [] h = absurd (omega (arith, h))
merge-long (a ∷ []) h = absurd (omega (arith, h))
merge-long (a ∷ b ∷ costs) h = refl

pub merge-short : (costs : List ℕ) → length costs ≤ 1 → merge_charge costs ≡ 0
merge-short [] h = refl
merge-short (a ∷ []) h = refl
merge-short (a ∷ b ∷ costs) h = absurd (omega (arith, h))

pub merge-rearranged : (xs ys : List ℕ) → IsPermutation xs ys → merge_charge xs ≡ merge_charge ys
merge-rearranged xs ys p = let l = length_permutation xs ys p in let s = sum_by-IsPermutation (λ n. n) xs ys p in dite (dec_lt 1 (length xs))
    (λ h. merge-long xs (omega (arith, h)) ∙ sym s ∙ sym (merge-long ys (omega (arith, h, l))))
    (λ h. merge-short xs (omega (arith, h)) ∙ sym (merge-short ys (omega (arith, h, l))))

-- all but one cost at least
merge-most : (costs : List ℕ) → sum costs ≤ merge_charge costs + greatest_of costs
merge-most [] = omega arith
merge-most (a ∷ []) = let g = greatest-cons a [] in let s = sum_by-cons (λ n. n) a [] in omega (arith, g, s)
merge-most (a ∷ b ∷ costs) = omega arith

-- batches of which all but the last have two tasks or more are charged all costs but one at least
pub batches-most : (css : List (List ℕ)) → AreFull 2 (map length css) → sum (joined css) ≤ sum_by merge_charge css + greatest_of (joined css)
batches-most [] h = omega arith
batches-most (cs ∷ []) h =
    let a = merge-most cs in let b = sum_by-cons merge_charge cs [] in let c = sum_by-append (λ n. n) cs [] in let d = greatest-append cs [] in
    omega (arith, a, b, c, d)
batches-most (cs ∷ ds ∷ css) h =
    let a = merge-long cs h.0 in let b = sum_by-cons merge_charge cs (ds ∷ css) in let c = sum_by-append (λ n. n) cs (joined (ds ∷ css)) in
    let d = greatest-append cs (joined (ds ∷ css)) in let rest = batches-most (ds ∷ css) h.1 in
    omega (arith, a, b, c, d, rest)

-- one batch is charged for one merge
pub batch-alone : (css : List (List ℕ)) → length css ≤ 1 → sum_by merge_charge css ≡ merge_charge (joined css)
batch-alone [] h = refl
batch-alone (cs ∷ []) h = let b = sum_by-cons merge_charge cs [] in b ∙ (let z : merge_charge cs + 0 ≡ merge_charge cs = omega arith in z) ∙ ap merge_charge (sym (append-nil cs))
batch-alone (cs ∷ ds ∷ css) h = absurd (omega (arith, h))
