-- The starts of intervals.
use Rattle.std.specs.Prelude.{◌≡◌, ℕ, ◌<◌, ℤ, pos, negsuc, ◌+ℤ◌, ◌*ℤ◌, ◌≤ℤ◌, ◌<ℤ◌}
use Rattle.std.specs.Int.{int_div_euclid, int_rem_euclid}
use Rattle.std.proofs.Common.{arith}
use Rattle.std.proofs.lemmas.Int.{ints, by_lt_z}
use Rattle.agg_model.specs.declared.aggregation.Spacing.TheVariants.{Numbers}
use Rattle.agg_evaluation.specs.Spacings.{interval_start}
use Rattle.agg_evaluation.specs.Intervals.{IsIntervalOf}
use Rattle.agg_evaluation.proofs.IntervalLaws.{interval_start-is, interval-unique}

-- the quotient that rounds down, and its remainder
pub euclid : (x : ℤ) (d : ℕ) → 0 < d → (int_div_euclid x (pos d) *ℤ pos d) +ℤ int_rem_euclid x (pos d) ≡ x
euclid (pos a) d h = omega (arith, ints)
euclid (negsuc a) d h = omega (arith, ints)

pub rem-low : (x : ℤ) (d : ℕ) → 0 < d → pos 0 ≤ℤ int_rem_euclid x (pos d)
rem-low (pos a) d h = omega (arith, ints)
rem-low (negsuc a) d h = omega (arith, ints)

pub rem-high : (x : ℤ) (d : ℕ) → 0 < d → int_rem_euclid x (pos d) <ℤ pos d
rem-high (pos a) d h = omega (arith, ints)
rem-high (negsuc a) d h = omega (arith, ints)

-- a greater number has no lower start
pub rising : (interval offset : ℕ) → 0 < interval → (m n : ℤ) → m ≤ℤ n → interval_start (Numbers interval offset) m ≤ℤ interval_start (Numbers interval offset) n
rising interval offset positive m n le =
    let of_m = interval_start-is interval offset m positive in
    let of_n = interval_start-is interval offset n positive in
    by_lt_z (interval_start (Numbers interval offset) n) (interval_start (Numbers interval offset) m)
    (λ h.
    let low = of_m.at_most in
    let high = of_n.above in
    let also : IsIntervalOf interval offset m (interval_start (Numbers interval offset) n) = record { times = of_n.times; multiple = of_n.multiple; at_most = omega (arith, ints); above = omega (arith, ints) } in
    let same = interval-unique interval offset m (interval_start (Numbers interval offset) m) (interval_start (Numbers interval offset) n) of_m also in
    absurd (omega (arith, ints)))
    (λ h. h)
