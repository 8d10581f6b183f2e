-- Whether a search in ascending numbers finds one.
use Rattle.std.proofs.Common.{◌≡◌, ◌<◌, ℕ, zero, suc, true, false, List, [], ◌∷◌, Result, Ok, Err, refl, sym, length, get_or, ⊎_elim, is_ok, arith}
use Rattle.std.specs.Ordering.{nat_cmp}
use Rattle.std.specs.List.Sorted.{IsSorted, IsBinarySearchResult}
use Rattle.std.proofs.lemmas.Bool.{eq-eqb, ne_eqb, or_from, or_left, or_right, cases_lt}
use Rattle.std.proofs.lemmas.List.Sorted.{searched, IsNonDecreasingBy-from_sort}
use Rattle.agg_base.specs.Memory.{is_failing}

any_at : (xs : List ℕ) (i x : ℕ) → i < length xs → get_or xs i 0 ≡ x → is_failing xs x ≡ true
any_at [] i x lt e = absurd (omega arith)
any_at (y ∷ ys) zero x lt e = or_left _ _ (eq-eqb y x e)
any_at (y ∷ ys) (suc i) x lt e = or_right _ _ (any_at ys i x (omega arith) e)

any_none : (xs : List ℕ) (x : ℕ) → ((k : ℕ) → k < length xs → get_or xs k 0 ≡ x → ⊥) → is_failing xs x ≡ false
any_none [] x h = refl
any_none (y ∷ ys) x h = or_from _ _ (ne_eqb y x (h 0 (omega arith))) (any_none ys x (λ k lt. h (suc k) (omega arith)))

pub found : (failing : List ℕ) (call : ℕ) (answer : Result ℕ ℕ) → IsSorted nat_cmp failing → IsBinarySearchResult (λ y. nat_cmp y call) failing answer → is_ok answer ≡ is_failing failing call
found failing call (Ok i) sorted h =
    let at = searched failing call (Ok i) h (λ k j le lt. IsNonDecreasingBy-from_sort (λ n. n) failing sorted k j 0 le lt) in
    sym (any_at failing i call at.0 at.1)
found failing call (Err i) sorted h =
    let at = searched failing call (Err i) h (λ k j le lt. IsNonDecreasingBy-from_sort (λ n. n) failing sorted k j 0 le lt) in
    sym (any_none failing call (λ k lt e. ⊎_elim (λ below. let b = at.1 k below in omega arith) (λ above. let b = at.2 k above lt in omega arith) (cases_lt k i)))
