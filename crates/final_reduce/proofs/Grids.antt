-- What is known of the intervals and of the bounds of a histogram.
use Rattle.std.specs.Prelude.{◌≡◌, refl, ℕ, ◌<◌, ◌^◌, ℤ, pos, ◌+ℤ◌, ◌-ℤ◌, ◌*ℤ◌, ◌≤ℤ◌, ◌<ℤ◌, int_le, int_lt, Bool, true, Option, Some, None}
use Rattle.std.specs.Option.{option_map_or}
use Rattle.std.specs.Int.{int_max}
use Rattle.std.proofs.Common.{sym, ◌∙◌, ap, subst, arith}
use Rattle.std.proofs.lemmas.Bool.{and_parts, and_from, ltb-true}
use Rattle.std.proofs.lemmas.Int.{ints, clamps, by_lt_z}
use Rattle.date_spec.specs.declared.range.TheConstants.{GREATEST_INSTANT, LEAST_INSTANT}
use Rattle.date_spec.specs.declared.period.Period.{Period}
use Rattle.date_spec.specs.Instants.{is_in_range}
use Rattle.date_spec.specs.Periods.{IsInstant, period_key}
use Rattle.date_spec.proofs.KeyLemmas.{instant-place, key-begun}
use Rattle.date_spec.proofs.PeriodLemmas.{less-most, most_least, most_most, same-most, times-next}
use Rattle.agg_model.specs.declared.aggregation.Bounds.{Bounds}
use Rattle.agg_model.specs.declared.aggregation.Spacing.{Spacing}
use Rattle.agg_model.specs.declared.aggregation.Spacing.TheVariants.{Numbers, Dates}
use Rattle.agg_evaluation.specs.Conditions.{is_spaced}
use Rattle.agg_evaluation.specs.Finishable.{is_near}
use Rattle.agg_evaluation.specs.Spacings.{are_instants, interval_start, is_period, is_zone, number_at, start_at}
use Rattle.agg_evaluation.proofs.SpacingLaws.{instant-is, period-is, zone-is}
use Rattle.final_reduce.specs.Steps.{IsNearNumber, is_bound}
use Rattle.final_reduce.proofs.Intervals.{IsPlaced, IsSpacing, begins, ends, is-le, le-is, number-back, number-is, number-rising, place-is, place-more, start-most}

-- a bound that is given may be one
abbrev pub is_held : Spacing → Option ℤ → Bool
is_held s bound = option_map_or (is_bound s) bound true

abbrev pub IsPlacedBound : Spacing → Option ℤ → Type 0
IsPlacedBound s None = Unit {0}
IsPlacedBound s (Some bound) = IsPlaced s bound

held-numbers : (interval offset : ℕ) (bound : Option ℤ) → is_held (Numbers interval offset) bound ≡ true
held-numbers interval offset None = refl
held-numbers interval offset (Some b) = refl

pub spacing-is : (s : Spacing) (extended hard : Bounds) → is_spaced s extended hard ≡ true → IsSpacing s
spacing-is (Numbers interval offset) extended hard h = ltb-true 0 interval h
spacing-is (Dates period zone) extended hard h =
    let parts = and_parts (is_period period) _ h in
    let more = and_parts (is_zone zone) _ parts.1 in
    (period-is period parts.0, zone-is zone more.0)

pub extended-held : (s : Spacing) (extended hard : Bounds) → is_spaced s extended hard ≡ true → (is_held s extended.min ≡ true) × (is_held s extended.max ≡ true)
extended-held (Numbers interval offset) extended hard h = (held-numbers interval offset extended.min, held-numbers interval offset extended.max)
extended-held (Dates period zone) extended hard h =
    let parts = and_parts (is_period period) _ h in
    let more = and_parts (is_zone zone) _ parts.1 in
    let both = and_parts (are_instants extended) (are_instants hard) more.1 in
    and_parts (option_map_or is_in_range extended.min true) (option_map_or is_in_range extended.max true) both.0

pub hard-held : (s : Spacing) (extended hard : Bounds) → is_spaced s extended hard ≡ true → (is_held s hard.min ≡ true) × (is_held s hard.max ≡ true)
hard-held (Numbers interval offset) extended hard h = (held-numbers interval offset hard.min, held-numbers interval offset hard.max)
hard-held (Dates period zone) extended hard h =
    let parts = and_parts (is_period period) _ h in
    let more = and_parts (is_zone zone) _ parts.1 in
    let both = and_parts (are_instants extended) (are_instants hard) more.1 in
    and_parts (option_map_or is_in_range hard.min true) (option_map_or is_in_range hard.max true) both.1

pub bound-placed : (s : Spacing) → IsSpacing s → (bound : ℤ) → is_bound s bound ≡ true → IsPlaced s bound
bound-placed (Numbers interval offset) is bound held = tt
bound-placed (Dates period zone) is bound held = instant-place period zone bound is.1 (instant-is bound held).0

pub placed-bound : (s : Spacing) → IsSpacing s → (bound : Option ℤ) → is_held s bound ≡ true → IsPlacedBound s bound
placed-bound s is None held = tt
placed-bound s is (Some bound) held = bound-placed s is bound held

least_held : LEAST_INSTANT ≤ℤ LEAST_INSTANT
least_held = same-most LEAST_INSTANT LEAST_INSTANT refl

-- what is near is placed, and so is a bound of 64 bits near
pub near-placed : (s : Spacing) → IsSpacing s → (value : ℤ) → is_near s value ≡ true → IsPlaced s value
near-placed (Numbers interval offset) is value near = tt
near-placed (Dates period zone) is value near =
    let dates = Dates period zone in
    let first = interval_start dates LEAST_INSTANT in
    let parts = and_parts (int_le first value) (int_le value GREATEST_INSTANT) near in
    let numbered = number-is dates LEAST_INSTANT (instant-place period zone LEAST_INSTANT is.1 least_held) in
    place-more dates first value (place-is dates (number_at dates LEAST_INSTANT) numbered) (is-le first value parts.0)

-- over dates: what is near lies from the first key to the last instant
pub near-dates : (period : Period) (zone value : ℤ) → is_near (Dates period zone) value ≡ true → (interval_start (Dates period zone) LEAST_INSTANT ≤ℤ value) × (value ≤ℤ GREATEST_INSTANT)
near-dates period zone value near =
    let first = interval_start (Dates period zone) LEAST_INSTANT in
    let parts = and_parts (int_le first value) (int_le value GREATEST_INSTANT) near in
    (is-le first value parts.0, is-le value GREATEST_INSTANT parts.1)

far_below : (b : ℤ) → (pos 0 -ℤ pos (2 ^ 63)) ≤ℤ b → (pos 0 -ℤ pos (2 ^ 65)) ≤ℤ b
far_below b h = omega (arith, ints, h)

lt-is : (a b : ℤ) → a <ℤ b → int_lt a b ≡ true
lt-is a b h = grind (arith, ints, h)

pub bound-near : (s : Spacing) → IsSpacing s → (bound : ℤ) → is_bound s bound ≡ true → (pos 0 -ℤ pos (2 ^ 63)) ≤ℤ bound → bound <ℤ pos (2 ^ 63) → is_near s bound ≡ true
bound-near (Numbers interval offset) is bound held low high =
    and_from (int_le (pos 0 -ℤ pos (2 ^ 65)) bound) (int_lt bound (pos (2 ^ 63))) (le-is (pos 0 -ℤ pos (2 ^ 65)) bound (far_below bound low)) (lt-is bound (pos (2 ^ 63)) high)
bound-near (Dates period zone) is bound held low high =
    let first = period_key period zone LEAST_INSTANT in
    let instant = instant-is bound held in
    let begun = key-begun period zone is.0 LEAST_INSTANT (instant-place period zone LEAST_INSTANT is.1 least_held) in
    and_from (int_le first bound) (int_le bound GREATEST_INSTANT) (le-is first bound (most_most first LEAST_INSTANT bound begun instant.0)) (le-is bound GREATEST_INSTANT instant.1)

is-lt : (a b : ℤ) → int_lt a b ≡ true → a <ℤ b
is-lt a b h = omega (arith, ints)

begun_after : (v start next : ℤ) (interval offset : ℕ) → (pos 0 -ℤ pos (2 ^ 65)) ≤ℤ v → interval < 2 ^ 64 → next ≡ start +ℤ pos interval → v <ℤ (next +ℤ pos offset) → (pos 0 -ℤ pos (2 ^ 80)) ≤ℤ (start +ℤ pos offset)
begun_after v start next interval offset h fits e k = omega (arith, ints, h, fits, e, k)

begun_before : (start v : ℤ) → v <ℤ pos (2 ^ 63) → start ≤ℤ v → start ≤ℤ pos (2 ^ 80)
begun_before start v h k = omega (arith, ints, h, k)

max_low : (v w : ℤ) → w ≤ℤ int_max v w
max_low v w = omega (arith, ints, clamps)

max_high : (v w g : ℤ) → v ≤ℤ g → w ≤ℤ g → int_max v w ≤ℤ g
max_high v w g h k = omega (arith, ints, clamps, h, k)

max_second : (v w : ℤ) → v <ℤ w → int_max v w ≡ w
max_second v w h = omega (arith, ints, clamps, h)

max_first : (v w : ℤ) → w ≤ℤ v → int_max v w ≡ v
max_first v w h = omega (arith, ints, clamps, h)

least_before_greatest : LEAST_INSTANT ≤ℤ GREATEST_INSTANT
least_before_greatest = omega (arith, ints)

-- over dates: what is near lies in the interval of an instant, the first one where it is before it
module _ (s : Spacing) (is : IsSpacing s) where
  -- a value from the start of another's interval on, and not after it, lies in that interval
  number-same : (value later : ℤ) → IsPlaced s later → IsPlaced s value → interval_start s later ≤ℤ value → value ≤ℤ later → number_at s later ≡ number_at s value
  number-same value later placed_later placed low high =
      let numbered = number-is s later placed_later in
      let back = number-back s is (number_at s later) numbered in
      let first = number-rising s is (interval_start s later) value (place-is s (number_at s later) numbered) low in
      most_least (number_at s later) (number_at s value) (subst (λ (n : ℤ). n ≤ℤ number_at s value) back first) (number-rising s is value later placed high)

pub first-number : (period : Period) (zone value : ℤ) → IsSpacing (Dates period zone) → is_near (Dates period zone) value ≡ true
    → number_at (Dates period zone) (int_max value LEAST_INSTANT) ≡ number_at (Dates period zone) value
first-number period zone value is near =
    let s = Dates period zone in
    by_lt_z value LEAST_INSTANT
    (λ less.
    let least = instant-place period zone LEAST_INSTANT is.1 least_held in
    ap (number_at s) (max_second value LEAST_INSTANT less)
    ∙ number-same s is value LEAST_INSTANT least (near-placed s is value near) (near-dates period zone value near).0 (less-most value LEAST_INSTANT less))
    (λ most. ap (number_at s) (max_first value LEAST_INSTANT most))

-- the later one of a near value and the first instant is an instant of a date field
pub instant-held : (value instant : ℤ) → instant ≡ int_max value LEAST_INSTANT → value ≤ℤ GREATEST_INSTANT → IsInstant instant
instant-held value instant is high = (
  subst (λ (z : ℤ). LEAST_INSTANT ≤ℤ z) (sym is) (max_low value LEAST_INSTANT),
  subst (λ (z : ℤ). z ≤ℤ GREATEST_INSTANT) (sym is) (max_high value LEAST_INSTANT GREATEST_INSTANT high least_before_greatest),
)

-- over numbers: the interval of a near value begins near it, where it has 64 bits
pub begins-near : (interval offset : ℕ) (value number : ℤ) → 0 < interval → interval < 2 ^ 64 → is_near (Numbers interval offset) value ≡ true → number ≡ number_at (Numbers interval offset) value → IsNearNumber (Numbers interval offset) number
begins-near interval offset value number positive fits near is =
    let s = Numbers interval offset in
    let parts = and_parts (int_le (pos 0 -ℤ pos (2 ^ 65)) value) (int_lt value (pos (2 ^ 63))) near in
    let low = is-le (pos 0 -ℤ pos (2 ^ 65)) value parts.0 in
    let high = is-lt value (pos (2 ^ 63)) parts.1 in
    let begun = begins s positive value tt in
    let ended = ends s positive value tt in
    let next = times-next (number_at s value) interval in
    subst (IsNearNumber s) (sym is) (begun_after value (number_at s value *ℤ pos interval) ((number_at s value +ℤ pos 1) *ℤ pos interval) interval offset low fits next ended, begun_before (start_at s (number_at s value)) value high begun)

-- numbers between near ones are near
pub near-between : (s : Spacing) → IsSpacing s → (m n k : ℤ) → IsNearNumber s m → IsNearNumber s k → m ≤ℤ n → n ≤ℤ k → IsNearNumber s n
near-between (Numbers interval offset) is m n k near_m near_k low high =
    let every = Numbers interval offset in (
      most_most (pos 0 -ℤ pos (2 ^ 80)) (start_at every m) (start_at every n) near_m.0 (start-most every is m n tt low),
      most_most (start_at every n) (start_at every k) (pos (2 ^ 80)) (start-most every is n k tt high) near_k.1,
    )
near-between (Dates period zone) is m n k near_m near_k low high =
    let least = near_m.1.0 in
    let greatest = near_k.1.1 in (
      (most_most _ m n near_m.0.0 low, most_most n k _ high near_k.0.1),
      (omega (arith, ints, least, low), omega (arith, ints, greatest, high)),
    )
