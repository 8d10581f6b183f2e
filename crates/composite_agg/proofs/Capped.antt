-- Products that stop at a greatest value.
use Rattle.std.proofs.Common.{◌≡◌, ℕ, zero, suc, ◌+◌, ◌*◌, ◌<◌, ◌≤◌, sym, ◌∙◌, ap, arith, ⊎_elim}
use Rattle.std.specs.Prelude.{min}
use Rattle.std.proofs.lemmas.Bool.{cases_lt}
use Rattle.std.proofs.Math.Nat.{mul_assoc}

small : (m x : ℕ) → x ≤ m → min x m ≡ x
small m x le = omega (arith, le)

large : (m x : ℕ) → m ≤ x → min x m ≡ m
large m x le = omega (arith, le)

grows : (m x q : ℕ) → m ≤ x → m ≤ x * suc q
grows m x q le = let e : x * suc q ≡ x + x * q = omega arith in omega (arith, e, le)

-- the greatest value stays where it is multiplied
pub capped : (m x r : ℕ) → min (min x m * r) m ≡ min (x * r) m
capped m x zero = let e : min x m * 0 ≡ 0 = omega arith in let f : x * 0 ≡ 0 = omega arith in ap (λ n. min n m) (e ∙ sym f)
capped m x (suc q) = ⊎_elim
    (λ (over : m < x).
    let most : m ≤ x = omega (arith, over) in
    ap (λ n. min (n * suc q) m) (large m x most) ∙ large m (m * suc q) (grows m m q (omega arith)) ∙ sym (large m (x * suc q) (grows m x q most)))
    (λ (le : x ≤ m). ap (λ n. min (n * suc q) m) (small m x le))
    (cases_lt m x)

pub one_time : (n : ℕ) → 1 * n ≡ n
one_time n = omega arith

pub times_times : (a b c : ℕ) → (a * b) * c ≡ a * (b * c)
times_times a b c = mul_assoc a b c
