-- How far a whole number is from 0: sums of numbers of 64 bits stay within 128.
use Rattle.std.specs.Prelude.{◌≡◌, refl, ℕ, suc, ◌+◌, ◌-◌, ◌^◌, ◌<◌, ◌≤◌, ℤ, pos, negsuc, neg_ℤ, ◌+ℤ◌, ◌≤ℤ◌, true, int_le, int_lt, List, [], ◌∷◌, map, sum_by}
use Rattle.std.proofs.Common.{arith}
use Rattle.std.proofs.lemmas.Bool.{and_parts, and_from}
use Rattle.std.proofs.lemmas.Bool.Decides.{nat_tests}
use Rattle.std.proofs.lemmas.Int.{ints}
use Rattle.std.proofs.lemmas.List.Sums.{sum_by-cons}
use Rattle.agg_model.specs.FieldKinds.{fits_below}
use Rattle.agg_model.specs.declared.partial.Metric.{Metric}
use Rattle.agg_evaluation.specs.Shard.{int_sum}
use Rattle.agg_evaluation.specs.Trees.{fits_i128}

abbrev pub size : ℤ → ℕ
size (pos n) = n
size (negsuc n) = suc n

size_within : (z : ℤ) (k : ℕ) → neg_ℤ (pos k) ≤ℤ z → z ≤ℤ pos k → size z ≤ k
size_within (pos n) k low high = omega (arith, ints, low, high)
size_within (negsuc n) k low high = omega (arith, ints, low, high)

below_size : (z : ℤ) → z ≤ℤ pos (size z)
below_size (pos n) = omega (arith, ints)
below_size (negsuc n) = omega (arith, ints)

above_size : (z : ℤ) → neg_ℤ (pos (size z)) ≤ℤ z
above_size (pos n) = omega (arith, ints)
above_size (negsuc n) = omega (arith, ints)

pub size_plus : (a b : ℤ) → size (a +ℤ b) ≤ size a + size b
size_plus a b =
    let c = below_size a in
    let d = below_size b in
    let e = above_size a in
    let f = above_size b in
    size_within (a +ℤ b) (size a + size b) (omega (arith, ints, e, f)) (omega (arith, ints, c, d))

-- the size of a sum is at most the sum of the sizes
pub size_sum : (ms : List Metric) → size (int_sum (map (λ m. m.sum) ms)) ≤ sum_by (λ (m : Metric). size m.sum) ms
size_sum [] = omega arith
size_sum (m ∷ ms) =
    let one = size_plus m.sum (int_sum (map (λ m. m.sum) ms)) in
    let rest = size_sum ms in
    let cons = sum_by-cons (λ (m : Metric). size m.sum) m ms in
    omega (arith, one, rest, cons)

-- a number of so many bits
pub size_fits : (half : ℕ) (z : ℤ) → fits_below half z ≡ true → size z ≤ half
size_fits half (pos n) h = let high = (and_parts (int_le (neg_ℤ (pos half)) (pos n)) (int_lt (pos n) (pos half)) h).1 in grind (arith, nat_tests, ints, high)
size_fits half (negsuc n) h = let low = (and_parts (int_le (neg_ℤ (pos half)) (negsuc n)) (int_lt (negsuc n) (pos half)) h).0 in grind (arith, nat_tests, ints, low)

pub size_in_i128 : (z : ℤ) → size z < 2 ^ 127 → fits_i128 z ≡ true
size_in_i128 (pos n) h = let high : int_le (pos n) (pos (2 ^ 127 - 1)) ≡ true = grind (arith, nat_tests, h) in high
size_in_i128 (negsuc n) h = let low : int_le (negsuc (2 ^ 127 - 1)) (negsuc n) ≡ true = grind (arith, nat_tests, h) in and_from _ _ low refl

-- a narrower number is a wider one
pub size_wider : (half wide : ℕ) (z : ℤ) → half ≤ wide → fits_below half z ≡ true → fits_below wide z ≡ true
size_wider half wide (pos n) low h =
    let parts = and_parts (int_le (neg_ℤ (pos half)) (pos n)) (int_lt (pos n) (pos half)) h in
    let high = parts.1 in
    and_from _ _ (let e : int_le (neg_ℤ (pos wide)) (pos n) ≡ true = grind (arith, nat_tests, ints) in e) (let e : int_lt (pos n) (pos wide) ≡ true = grind (arith, nat_tests, ints, high, low) in e)
size_wider half wide (negsuc n) low h =
    let parts = and_parts (int_le (neg_ℤ (pos half)) (negsuc n)) (int_lt (negsuc n) (pos half)) h in
    let least = parts.0 in
    and_from _ _ (let e : int_le (neg_ℤ (pos wide)) (negsuc n) ≡ true = grind (arith, nat_tests, ints, least, low) in e) refl
