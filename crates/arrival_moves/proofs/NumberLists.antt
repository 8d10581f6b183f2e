-- How often a number is in a list, and the numbers of a range.
use Rattle.std.proofs.Common.{◌≡◌, ℕ, zero, suc, ◌+◌, ◌<◌, ◌≤◌, ⊎_elim, true, false, ◌||◌, eqb, List, [], ◌∷◌, ◌++◌, length, refl, sym, ap, ◌∙◌, arith}
use Rattle.std.proofs.lemmas.Bool.{false≢true, and_parts, or_cases, eqb-true, eq-eqb, ne_eqb, cases_Bool, cond-true, cond-false}
use Rattle.std.proofs.lemmas.List.Sums.{sum_by-cons, sum_by-append}
use mathlib.Core.Logic.{dite}
use native.Mathlib.Decide.{ℕ_discrete}
use Rattle.arrival_moves.specs.Lists.{one_if, times, contains, without, same_list, numbers_from}
use Rattle.arrival_moves.proofs.OneIf.{one_if_true}

-- one number more in front
pub times_cons : (k x : ℕ) (xs : List ℕ) → times k (x ∷ xs) ≡ one_if (eqb x k) + times k xs
times_cons k x xs = sum_by-cons (λ y. one_if (eqb y k)) x xs

-- two lists in a row
pub times_append : (k : ℕ) (xs ys : List ℕ) → times k (xs ++ ys) ≡ times k xs + times k ys
times_append k xs ys = sum_by-append (λ y. one_if (eqb y k)) xs ys

-- a list that `same_list` finds equal is equal
pub same_is : (xs ys : List ℕ) → same_list xs ys ≡ true → xs ≡ ys
same_is [] [] h = refl
same_is [] (y ∷ ys) h = absurd (false≢true h)
same_is (x ∷ xs) [] h = absurd (false≢true h)
same_is (x ∷ xs) (y ∷ ys) h = let a = and_parts _ _ h in let e = eqb-true x y a.0 in let r = same_is xs ys a.1 in λ j. e j ∷ r j

-- of a list of one number
pub times_one : (k x : ℕ) → 1 ≤ times k (x ∷ []) → x ≡ k
times_one k x h = let a = times_cons k x [] in eqb-true x k (one_if_true (eqb x k) (omega arith))

-- what the list contains is there at least once
pub contains_times : (k : ℕ) (xs : List ℕ) → contains k xs ≡ true → 1 ≤ times k xs
contains_times k [] h = absurd (false≢true h)
contains_times k (x ∷ xs) h = let a = times_cons k x xs in ⊎_elim (λ y. let b : one_if (eqb x k) ≡ 1 = ap one_if y in omega arith) (λ y. let r = contains_times k xs y in omega arith) (or_cases _ _ h)

-- what is not the first stands behind it
contains_head : (k x : ℕ) (xs : List ℕ) → eqb x k ≡ false → contains k (x ∷ xs) ≡ true → contains k xs ≡ true
contains_head k x xs n h = sym (ap (λ b. b || contains k xs) n) ∙ h

-- without the first k there is one k less, and as many of every other number
pub times_without : (n k : ℕ) (xs : List ℕ) → contains k xs ≡ true → times n (without k xs) + one_if (eqb k n) ≡ times n xs
times_without n k [] h = absurd (false≢true h)
times_without n k (x ∷ xs) h = let a = times_cons n x xs in ⊎_elim
    (λ (y : eqb x k ≡ true). let c : times n (without k (x ∷ xs)) ≡ times n xs = ap (times n) (cond-true _ _ _ y) in let d : one_if (eqb x n) ≡ one_if (eqb k n) = ap (λ z. one_if (eqb z n)) (eqb-true x k y) in omega arith)
    (λ (y : eqb x k ≡ false). let c : times n (without k (x ∷ xs)) ≡ times n (x ∷ without k xs) = ap (times n) (cond-false _ _ _ y) in let d = times_cons n x (without k xs) in let r = times_without n k xs (contains_head k x xs y h) in omega arith)
    (cases_Bool (eqb x k))

-- the list is shorter by one
pub length_without : (k : ℕ) (xs : List ℕ) → contains k xs ≡ true → suc (length (without k xs)) ≡ length xs
length_without k [] h = absurd (false≢true h)
length_without k (x ∷ xs) h = ⊎_elim
    (λ (y : eqb x k ≡ true). ap (λ ys. suc (length ys)) (cond-true _ _ _ y))
    (λ (y : eqb x k ≡ false). ap (λ ys. suc (length ys)) (cond-false _ _ _ y) ∙ ap suc (length_without k xs (contains_head k x xs y h)))
    (cases_Bool (eqb x k))

-- the range has its length
pub numbers_length : (t n : ℕ) → length (numbers_from t n) ≡ n
numbers_length t zero = refl
numbers_length t (suc n) = ap suc (numbers_length (suc t) n)

-- a number of the range is there once
pub numbers_in : (k t n : ℕ) → t ≤ k → k < t + n → times k (numbers_from t n) ≡ 1
numbers_in k t zero low high = absurd (omega arith)
numbers_in k t (suc n) low high = let a = times_cons k t (numbers_from (suc t) n) in dite (ℕ_discrete t k)
    (λ y. let b : one_if (eqb t k) ≡ 1 = ap one_if (eq-eqb t k y) in let c = numbers_out k (suc t) n (λ z. omega arith) in omega arith)
    (λ y. let b : one_if (eqb t k) ≡ 0 = ap one_if (ne_eqb t k y) in let c = numbers_in k (suc t) n (omega arith) (omega arith) in omega arith)
  where
    numbers_out : (k t n : ℕ) → (t ≤ k → ⊥) → times k (numbers_from t n) ≡ 0
    numbers_out k t zero h = refl
    numbers_out k t (suc n) h = let a = times_cons k t (numbers_from (suc t) n) in let b : one_if (eqb t k) ≡ 0 = ap one_if (ne_eqb t k (λ y. h (omega arith))) in let c = numbers_out k (suc t) n (λ y. h (omega arith)) in omega arith

-- and every other number not at all
pub numbers_else : (k t n : ℕ) → (t ≤ k → k < t + n → ⊥) → times k (numbers_from t n) ≡ 0
numbers_else k t zero h = refl
numbers_else k t (suc n) h = let a = times_cons k t (numbers_from (suc t) n) in let b : one_if (eqb t k) ≡ 0 = ap one_if (ne_eqb t k (λ y. h (omega arith) (omega arith))) in let c = numbers_else k (suc t) n (λ y z. h (omega arith) (omega arith)) in omega arith
