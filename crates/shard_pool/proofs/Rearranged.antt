-- Lists of numbers that have each number equally often are rearrangements of each other.
use Rattle.std.specs.Prelude.{◌≡◌, refl, ℕ, zero, suc, ◌+◌, ◌≤◌, ◌<◌, ◌==◌, ◌||◌, true, false, List, [], ◌∷◌, IsPermutation}
use Rattle.std.specs.List.{AllByRecursion, range_with_len}
use Rattle.std.proofs.Common.{sym, ◌∙◌, ap, subst, arith, ⊎_elim}
use Rattle.std.proofs.lemmas.Bool.{eq-eqb, ne_eqb, eqb-true, cases_Bool, cond-true, cond-false, false≢true}
use Rattle.std.proofs.lemmas.List.Sorted.{IsPermutation-refl, IsPermutation-trans, IsPermutation-cons, IsPermutation-middle}
use mathlib.Core.Logic.{dite}
use native.Mathlib.Decide.{dec_lt}
use Rattle.arrival_moves.specs.Lists.{one_if, times, contains, without, numbers_from}
use Rattle.arrival_moves.proofs.NumberLists.{times_cons, times_without, numbers_in, numbers_else}

-- the numbers of a range, told in either way
pub range-is : (t n : ℕ) → range_with_len t n ≡ numbers_from t n
range-is t zero = refl
range-is t (suc n) = ap (λ xs. t ∷ xs) (range-is (t + 1) n ∙ ap (λ k. numbers_from k n) (let e : t + 1 ≡ suc t = omega arith in e))

-- what is there at least once is contained
pub times-contains : (k : ℕ) (xs : List ℕ) → 1 ≤ times k xs → contains k xs ≡ true
times-contains k [] h = absurd (omega (arith, h))
times-contains k (x ∷ xs) h = ⊎_elim
    (λ (y : (x == k) ≡ true). ap (λ b. b || contains k xs) y)
    (λ (y : (x == k) ≡ false). ap (λ b. b || contains k xs) y ∙ times-contains k xs (let a = times_cons k x xs in let b : one_if (x == k) ≡ 0 = ap one_if y in omega (arith, a, b, h)))
    (cases_Bool (x == k))

-- a number may be taken to the front
pub front-permutes : (k : ℕ) (xs : List ℕ) → contains k xs ≡ true → IsPermutation (k ∷ without k xs) xs
front-permutes k [] h = absurd (false≢true h)
front-permutes k (x ∷ xs) h = ⊎_elim
    (λ (y : (x == k) ≡ true). subst (λ ys. IsPermutation (k ∷ ys) (x ∷ xs)) (sym (cond-true _ _ _ y)) (subst (λ z. IsPermutation (z ∷ xs) (x ∷ xs)) (eqb-true x k y) (IsPermutation-refl (x ∷ xs))))
    (λ (y : (x == k) ≡ false). subst (λ ys. IsPermutation (k ∷ ys) (x ∷ xs)) (sym (cond-false _ _ _ y))
    (IsPermutation-trans (k ∷ x ∷ without k xs) (x ∷ k ∷ without k xs) (x ∷ xs) (IsPermutation-middle (k ∷ []) x (without k xs))
    (IsPermutation-cons x (k ∷ without k xs) xs (front-permutes k xs (sym (ap (λ b. b || contains k xs) y) ∙ h)))))
    (cases_Bool (x == k))

-- so lists with the same numbers, each as often, are rearrangements
pub same-times : (xs ys : List ℕ) → ((k : ℕ) → times k xs ≡ times k ys) → IsPermutation xs ys
same-times [] [] h = IsPermutation-refl []
same-times [] (y ∷ ys) h = absurd (let a = times_cons y y ys in let b : one_if (y == y) ≡ 1 = ap one_if (eq-eqb y y refl) in let c : 0 ≡ times y (y ∷ ys) = h y in omega (arith, a, b, c))
same-times (x ∷ xs) ys h =
    let one : one_if (x == x) ≡ 1 = ap one_if (eq-eqb x x refl) in let all = times_cons x x xs in let same = h x in
    let there : contains x ys ≡ true = times-contains x ys (omega (arith, one, all, same)) in
    let rest : (k : ℕ) → times k xs ≡ times k (without x ys) = λ k. (let a = times_without k x ys there in let b = times_cons k x xs in let c = h k in omega (arith, a, b, c)) in
    IsPermutation-trans (x ∷ xs) (x ∷ without x ys) ys (IsPermutation-cons x xs (without x ys) (same-times xs (without x ys) rest)) (front-permutes x ys there)

-- numbers below n are not n or above
pub times-above : (n k : ℕ) (xs : List ℕ) → n ≤ k → AllByRecursion (λ s. s < n) xs → times k xs ≡ 0
times-above n k [] h low = refl
times-above n k (x ∷ xs) h low =
    let first = low.0 in let none : one_if (x == k) ≡ 0 = ap one_if (ne_eqb x k (λ e. omega (arith, e, h, first))) in
    let a = times_cons k x xs in let rest = times-above n k xs h low.1 in omega (arith, none, a, rest)

-- the numbers below n, each once
pub times-range : (n k : ℕ) → k < n → times k (range_with_len 0 n) ≡ 1
times-range n k h = ap (times k) (range-is 0 n) ∙ numbers_in k 0 n (omega arith) (omega (arith, h))

pub times-past : (n k : ℕ) → n ≤ k → times k (range_with_len 0 n) ≡ 0
times-past n k h = ap (times k) (range-is 0 n) ∙ numbers_else k 0 n (λ a b. omega (arith, a, b, h))

-- numbers below n that stand each once are those numbers, rearranged
pub each-once : (n : ℕ) (xs : List ℕ) → AllByRecursion (λ s. s < n) xs → ((k : ℕ) → k < n → times k xs ≡ 1) → IsPermutation xs (range_with_len 0 n)
each-once n xs low once = same-times xs (range_with_len 0 n) (λ k. dite (dec_lt k n)
    (λ h. once k h ∙ sym (times-range n k h))
    (λ h. times-above n k xs (omega (arith, h)) low ∙ sym (times-past n k (omega (arith, h)))))
