-- The shards that a search leaves out, by ascending number, and those that are left.
use Rattle.std.specs.Prelude.{◌≡◌, refl, ℕ, suc, ◌+◌, ◌≤◌, ◌<◌, ◌==◌, ◌||◌, not, Bool, true, false, cond, List, [], ◌∷◌, map, filter, IsPermutation, IsSortedByKey}
use Rattle.std.specs.List.{AllByRecursion, range_with_len}
use Rattle.std.proofs.Common.{sym, ◌∙◌, ap, subst, arith, ⊎_elim}
use Rattle.std.proofs.lemmas.Bool.{eq-eqb, ne_eqb, cases_Bool}
use Rattle.std.proofs.lemmas.List.Sorted.{IsNonDecreasingBy-from_sort}
use Rattle.std.specs.Ordering.{nat_cmp}
use Rattle.std.specs.List.Sorted.{IsNonDecreasingBy}
use mathlib.Core.Logic.{dite}
use native.Mathlib.Decide.{ℕ_discrete, dec_lt}
use Rattle.agg_model.specs.declared.outcome.Failure.{Failure}
use Rattle.agg_spec.specs.Failures.{AreAscending, AreFailures, has_failed}
use Rattle.arrival_moves.specs.Lists.{one_if, times}
use Rattle.arrival_moves.proofs.NumberLists.{times_cons}
use Rattle.shard_pool.proofs.Rearranged.{same-times, times-above, times-past, times-range}

abbrev failed_shards : List Failure → List ℕ
failed_shards fs = map (λ (f : Failure). f.shard) fs

rises-on : (x : Failure) (fs : List Failure) → IsNonDecreasingBy (λ (f : Failure). f.shard) (x ∷ fs) → IsNonDecreasingBy (λ (f : Failure). f.shard) fs
rises-on x fs h i j d low high = h (suc i) (suc j) d (omega (arith, low)) (omega (arith, high))

-- failures in order, no shard of which is there twice, are the failures of an answer
ascends : (n least : ℕ) (fs : List Failure) → IsNonDecreasingBy (λ (f : Failure). f.shard) fs → ((k : ℕ) → times k (failed_shards fs) ≤ 1) → ((k : ℕ) → n ≤ k → times k (failed_shards fs) ≡ 0)
    → ((x : Failure) (rest : List Failure) → fs ≡ x ∷ rest → least ≤ x.shard) → AreAscending least n fs
ascends n least [] rises apart within low = tt
ascends n least (x ∷ fs) rises apart within low = (low x fs refl, below, ascends n (x.shard + 1) fs (rises-on x fs rises) fewer none next)
  where
    all : (k : ℕ) → times k (failed_shards (x ∷ fs)) ≡ one_if (x.shard == k) + times k (failed_shards fs)
    all k = times_cons k x.shard (failed_shards fs)

    own : one_if (x.shard == x.shard) ≡ 1
    own = ap one_if (eq-eqb x.shard x.shard refl)

    fewer : (k : ℕ) → times k (failed_shards fs) ≤ 1
    fewer k = let a = all k in let b = apart k in omega (arith, a, b)

    none : (k : ℕ) → n ≤ k → times k (failed_shards fs) ≡ 0
    none k h = let a = all k in let b = within k h in omega (arith, a, b)

    below : x.shard < n
    below = dite (dec_lt x.shard n) (λ h. h) (λ h. let a = all x.shard in let b = within x.shard (omega (arith, h)) in absurd (omega (arith, a, b, own)))

    next : (y : Failure) (rest : List Failure) → fs ≡ y ∷ rest → x.shard + 1 ≤ y.shard
    next y rest e =
        let a = all x.shard in let b = apart x.shard in
        let c : times x.shard (failed_shards fs) ≡ one_if (y.shard == x.shard) + times x.shard (failed_shards rest) = ap (λ gs. times x.shard (failed_shards gs)) e ∙ times_cons x.shard y.shard (failed_shards rest) in
        let rise : x.shard ≤ y.shard = subst (λ gs. IsNonDecreasingBy (λ (f : Failure). f.shard) (x ∷ gs)) e rises 0 1 x (omega arith) (omega arith) in
        dite (ℕ_discrete y.shard x.shard)
        (λ same. let d : one_if (y.shard == x.shard) ≡ 1 = ap one_if (eq-eqb y.shard x.shard same) in absurd (omega (arith, a, b, c, d, own)))
        (λ other. omega (arith, rise, other))

pub failures-ascend : (n : ℕ) (fs : List Failure) → IsSortedByKey (λ (f : Failure). f.shard) nat_cmp fs → ((k : ℕ) → times k (map (λ (f : Failure). f.shard) fs) ≤ 1)
    → ((k : ℕ) → n ≤ k → times k (map (λ (f : Failure). f.shard) fs) ≡ 0) → AreFailures n fs
failures-ascend n fs order apart within = ascends n 0 fs (IsNonDecreasingBy-from_sort (λ (f : Failure). f.shard) fs order) apart within (λ x rest e. omega arith)

-- whether a shard failed
failed-is : (k : ℕ) (fs : List Failure) → 1 ≤ times k (failed_shards fs) → has_failed fs k ≡ true
failed-is k [] h = absurd (omega (arith, h))
failed-is k (x ∷ fs) h = ⊎_elim
    (λ (e : (x.shard == k) ≡ true). ap (λ b. b || has_failed fs k) e)
    (λ (e : (x.shard == k) ≡ false). ap (λ b. b || has_failed fs k) e ∙ failed-is k fs (let a = times_cons k x.shard (failed_shards fs) in let b : one_if (x.shard == k) ≡ 0 = ap one_if e in omega (arith, a, b, h)))
    (cases_Bool (x.shard == k))

failed-not : (k : ℕ) (fs : List Failure) → times k (failed_shards fs) ≡ 0 → has_failed fs k ≡ false
failed-not k [] h = refl
failed-not k (x ∷ fs) h = ⊎_elim
    (λ (e : (x.shard == k) ≡ true). let a = times_cons k x.shard (failed_shards fs) in let b : one_if (x.shard == k) ≡ 1 = ap one_if e in absurd (omega (arith, a, b, h)))
    (λ (e : (x.shard == k) ≡ false). ap (λ b. b || has_failed fs k) e ∙ failed-not k fs (let a = times_cons k x.shard (failed_shards fs) in omega (arith, a, h)))
    (cases_Bool (x.shard == k))

-- how often a number passes a test
times-where : (k : ℕ) (p : ℕ → Bool) (xs : List ℕ) → times k (filter p xs) ≡ cond (p k) (times k xs) 0
times-where k p [] = elim (p k) as (λ b. times k [] ≡ cond b (times k []) 0) [ true ↦ refl | false ↦ refl ]
times-where k p (x ∷ xs) = dite (ℕ_discrete x k)
    (λ same. ⊎_elim
    (λ (e : p x ≡ true). let at : p k ≡ true = ap p (sym same) ∙ e in
    ap (λ b. times k (cond b (x ∷ filter p xs) (filter p xs))) e ∙ times_cons k x (filter p xs) ∙ ap (λ n. one_if (x == k) + n) (times-where k p xs)
    ∙ ap (λ b. one_if (x == k) + cond b (times k xs) 0) at ∙ sym (times_cons k x xs) ∙ sym (ap (λ b. cond b (times k (x ∷ xs)) 0) at))
    (λ (e : p x ≡ false). let at : p k ≡ false = ap p (sym same) ∙ e in
    ap (λ b. times k (cond b (x ∷ filter p xs) (filter p xs))) e ∙ times-where k p xs ∙ ap (λ b. cond b (times k xs) 0) at ∙ sym (ap (λ b. cond b (times k (x ∷ xs)) 0) at))
    (cases_Bool (p x)))
    (λ other.
    let none : one_if (x == k) ≡ 0 = ap one_if (ne_eqb x k other) in let all = times_cons k x xs in
    let more : times k (x ∷ xs) ≡ times k xs = omega (arith, none, all) in
    let fewer = times_cons k x (filter p xs) in
    let same : times k (cond (p x) (x ∷ filter p xs) (filter p xs)) ≡ times k (filter p xs) =
    elim (p x) as (λ b. times k (cond b (x ∷ filter p xs) (filter p xs)) ≡ times k (filter p xs)) [ true ↦ omega (arith, none, fewer) | false ↦ refl ] in
    same ∙ times-where k p xs ∙ sym (ap (λ n. cond (p k) n 0) more))

-- where each shard is either left or failed, those left are those that did not fail, rearranged
pub left-rearranged : (n : ℕ) (fs : List Failure) (left : List ℕ) → AllByRecursion (λ s. s < n) left → ((k : ℕ) → k < n → times k left + times k (map (λ (f : Failure). f.shard) fs) ≡ 1)
    → IsPermutation left (filter (λ shard. not (has_failed fs shard)) (range_with_len 0 n))
left-rearranged n fs left within either = same-times left (filter (λ shard. not (has_failed fs shard)) (range_with_len 0 n)) (λ k.
    let p : ℕ → Bool = λ shard. not (has_failed fs shard) in
    let is = times-where k p (range_with_len 0 n) in
    dite (dec_lt k n)
    (λ h.
    (let one = either k h in let there = times-range n k h in
    dite (dec_lt 0 (times k (failed_shards fs)))
    (λ some. let e : p k ≡ false = ap not (failed-is k fs (omega (arith, some))) in let c : cond (p k) (times k (range_with_len 0 n)) 0 ≡ 0 = ap (λ b. cond b (times k (range_with_len 0 n)) 0) e in omega (arith, is, one, c, some))
    (λ none. let e : p k ≡ true = ap not (failed-not k fs (omega (arith, none))) in let c : cond (p k) (times k (range_with_len 0 n)) 0 ≡ times k (range_with_len 0 n) = ap (λ b. cond b (times k (range_with_len 0 n)) 0) e in omega (arith, is, one, there, c, none))))
    (λ h.
    (let a = times-above n k left (omega (arith, h)) within in let b = times-past n k (omega (arith, h)) in
    let c : cond (p k) (times k (range_with_len 0 n)) 0 ≡ 0 = elim (p k) as (λ z. cond z (times k (range_with_len 0 n)) 0 ≡ 0) [ true ↦ b | false ↦ refl ] in
    omega (arith, is, a, c))))
