-- Numbers among the first ones: some of a list, and a list within a list.
use Rattle.std.specs.Prelude.{◌≡◌, refl, ℕ, ◌≤◌, Bool, true, false, if◌then◌else◌, List, [], ◌∷◌, ◌++◌, filter, sum_by}
use Rattle.std.proofs.Common.{sym, subst, arith}
use Rattle.std.proofs.lemmas.List.Sums.{sum_by-append, sum_by-cons}
use Rattle.list_laws.specs.Among.{AreAmong}

pub sum-filter : (f : ℕ → ℕ) (p : ℕ → Bool) (ns : List ℕ) → sum_by f (filter p ns) ≤ sum_by f ns
sum-filter f p [] = omega arith
sum-filter f p (n ∷ ns) = by_test (sum-filter f p ns) (p n) refl
  where
    by_test : sum_by f (filter p ns) ≤ sum_by f ns → (b : Bool) → p n ≡ b → sum_by f (if p n then n ∷ filter p ns else filter p ns) ≤ sum_by f (n ∷ ns)
    by_test rest true e =
        let all = sum_by-cons f n ns in let more = sum_by-cons f n (filter p ns) in
        subst (λ b. sum_by f (if b then n ∷ filter p ns else filter p ns) ≤ sum_by f (n ∷ ns)) (sym e) (omega (arith, all, more, rest))
    by_test rest false e =
        let all = sum_by-cons f n ns in
        subst (λ b. sum_by f (if b then n ∷ filter p ns else filter p ns) ≤ sum_by f (n ∷ ns)) (sym e) (omega (arith, all, rest))

pub among-part : (n : ℕ) (a ns b : List ℕ) → AreAmong n (a ++ ns ++ b) → AreAmong n ns
among-part n a ns b all f = let whole = all f in let one = sum_by-append f (a ++ ns) b in let two = sum_by-append f a ns in omega (arith, whole, one, two)
