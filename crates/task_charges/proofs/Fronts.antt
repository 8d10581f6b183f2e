-- The first amounts of more.
use Rattle.std.specs.Prelude.{◌≡◌, refl, ℕ, zero, suc, ℤ, ◌+ℤ◌, List, [], ◌∷◌, ◌++◌, length, take, Some, slice_get}
use Rattle.std.proofs.Common.{ap, arith}
use Rattle.std.proofs.lemmas.Int.{ints}
use Rattle.agg_evaluation.specs.Shard.{int_sum}
use Rattle.agg_evaluation.specs.Trace.{sum_before}

pub front-here : (ns : List ℤ) (x : ℤ) (more : List ℤ) → slice_get (ns ++ x ∷ more) (length ns) ≡ Some x
front-here [] x more = refl
front-here (n ∷ ns) x more = front-here ns x more

pub front-some : (ns more : List ℤ) (n : ℕ) → (m : ℕ) × (sum_before (ns ++ more) m ≡ sum_before ns n)
front-some ns more zero = (0, refl)
front-some [] more (suc n) = (0, refl)
front-some (x ∷ ns) more (suc n) = let f = front-some ns more n in (suc f.0, ap (λ s. x +ℤ s) f.1)

pub front-next : (ns : List ℤ) (x : ℤ) (more : List ℤ) → sum_before (ns ++ x ∷ more) (suc (length ns)) ≡ int_sum ns +ℤ x
front-next [] x more = omega (arith, ints)
front-next (n ∷ ns) x more = let rest = front-next ns x more in omega (arith, ints)

-- some of the first amounts are some of all
pub take-sum : (ns : List ℤ) (n m : ℕ) → (k : ℕ) × (sum_before (take n ns) m ≡ sum_before ns k)
take-sum ns n zero = (0, refl)
take-sum ns zero (suc m) = (0, refl)
take-sum [] (suc n) (suc m) = (0, refl)
take-sum (x ∷ ns) (suc n) (suc m) = let f = take-sum ns n m in (suc f.0, ap (λ s. x +ℤ s) f.1)
