-- What is computed with lies in reach: periods of local times, their numbers and their starts.
use Rattle.std.proofs.Common.{◌≡◌, ℕ, ◌^◌, ◌≤◌, refl, subst, arith, ℤ, pos, negsuc, neg_ℤ, ◌+ℤ◌, ◌-ℤ◌, ◌*ℤ◌, ◌≤ℤ◌, ◌<ℤ◌}
use Rattle.std.proofs.Math.Nat.{div-le_self}
use Rattle.std.specs.Int.{int_div_euclid}
use Rattle.std.proofs.lemmas.Int.{ints, by_lt_z}
use Rattle.date_spec.specs.declared.range.TheConstants.{GREATEST_INSTANT, LEAST_INSTANT}
use Rattle.date_spec.specs.declared.period.Period.{Period}
use Rattle.date_spec.specs.declared.period.Period.TheVariants.{Fixed, Week, Month, Quarter, Year}
use Rattle.date_spec.specs.Calendar.{days_before_year, days_before_month}
use Rattle.date_spec.specs.Periods.{IsBetweenKeys, IsInstant, IsPeriod, IsZone, day_at, first_day, midnight, month_of_day, key_after, number_of, start_of}
use Rattle.date_spec.proofs.PeriodLemmas as told
use Rattle.date_spec.proofs.PeriodLemmas.{begins, first_day-least, first_day-most, month-low, month_of_day-least, most_most, number-rising, number_of-start_of, place-is, quotient-high, quotient-low, quarter_months-least, year_months-least, same-most, start-most}
use Rattle.date_spec.proofs.KeyLemmas.{zoned-most}
use Rattle.date_periods.specs.Reach.{IsCode, IsLocal, earliest}

-- the quotient lies between zero and the number, or near there
pub quotient-between : (z : ℤ) (d : ℕ) → neg_ℤ (pos (2 ^ 62)) ≤ℤ z → z ≤ℤ pos 253_402_300_799_999 → (neg_ℤ (pos (2 ^ 62)) ≤ℤ int_div_euclid z (pos d)) × (int_div_euclid z (pos d) ≤ℤ pos 253_402_300_799_999)
quotient-between (pos a) d low high = let less = div-le_self a d in (omega (arith, ints), omega (arith, ints))
quotient-between (negsuc a) d low high = let less = div-le_self a d in (omega (arith, ints), omega (arith, ints))

-- the first day after the year 9999
first_day-end : first_day (pos 120_000) ≡ pos 2_932_897
unfolding first_day days_before_year days_before_month
first_day-end = refl

before_end : (end day month : ℤ) → end ≡ pos 2_932_897 → end ≤ℤ month → month ≤ℤ day → day ≤ℤ pos 2_932_896 → ⊥
before_end end day month e h k high = omega (arith, ints)

least_end : neg_ℤ (pos 4800) ≤ℤ pos 120_000
least_end = omega (arith, ints)

one_less : (month : ℤ) → month <ℤ pos 120_000 → month ≤ℤ pos 119_999
one_less month h = omega (arith, ints)

pub month-end : (month day : ℤ) → first_day month ≤ℤ day → day ≤ℤ pos 2_932_896 → month ≤ℤ pos 119_999
month-end month day low high =
    by_lt_z month (pos 120_000) (one_less month)
    (λ late. absurd (before_end (first_day (pos 120_000)) day (first_day month) first_day-end (first_day-most (pos 120_000) month least_end late) low high))

-- days of local times in reach
day-low : (local day : ℤ) → neg_ℤ (pos 74_790_000_000_000) ≤ℤ local → local <ℤ ((day *ℤ pos 86_400_000) +ℤ pos 86_400_000) → neg_ℤ (pos 865_625) ≤ℤ day
day-low local day h high = omega (arith, ints)

day-high : (local day : ℤ) → local ≤ℤ pos 253_402_300_799_999 → (day *ℤ pos 86_400_000) ≤ℤ local → day ≤ℤ pos 2_932_896
day-high local day h low = omega (arith, ints)

pub day_at-low : (local : ℤ) → neg_ℤ (pos 74_790_000_000_000) ≤ℤ local → neg_ℤ (pos 865_625) ≤ℤ day_at local
day_at-low local h = day-low local (day_at local) h (quotient-high local 86_400_000 (omega arith))

pub day_at-high : (local : ℤ) → local ≤ℤ pos 253_402_300_799_999 → day_at local ≤ℤ pos 2_932_896
day_at-high local h = day-high local (day_at local) h (quotient-low local 86_400_000 (omega arith))

pub midnight-high : (day : ℤ) → midnight day ≤ℤ pos 253_402_300_799_999 → day ≤ℤ pos 2_932_896
midnight-high day h = omega (arith, ints)

midnight-low : (day : ℤ) → neg_ℤ (pos 865_625) ≤ℤ day → neg_ℤ (pos 74_790_000_000_000) ≤ℤ midnight day
midnight-low day h = omega (arith, ints)

pub local-place : (p : Period) (local : ℤ) → IsLocal p local → told.IsPlace p local
local-place (Fixed millis) local h = tt
local-place Week local h = tt
local-place Month local h = day_at-low local h.0
local-place Quarter local h = day_at-low local h.0
local-place Year local h = day_at-low local h.0

-- no number is beyond the times that are counted
month-high : (local : ℤ) → neg_ℤ (pos 74_790_000_000_000) ≤ℤ local → local ≤ℤ pos 253_402_300_799_999 → month_of_day (day_at local) ≤ℤ pos 119_999
month-high local low high = month-end (month_of_day (day_at local)) (day_at local) (month-low (day_at local) (day_at-low local low)) (day_at-high local high)

group-high : (month group : ℤ) (k : ℕ) → month ≤ℤ pos 119_999 → group ≤ℤ pos 0 → group ≤ℤ pos 253_402_300_799_999
group-high month group k h low = omega (arith, ints)

quarter-high : (month quarter : ℤ) → month ≤ℤ pos 119_999 → (quarter *ℤ pos 3) ≤ℤ month → quarter ≤ℤ pos 253_402_300_799_999
quarter-high month quarter h k = omega (arith, ints)

year-high : (month year : ℤ) → month ≤ℤ pos 119_999 → (year *ℤ pos 12) ≤ℤ month → year ≤ℤ pos 253_402_300_799_999
year-high month year h k = omega (arith, ints)

more_high : (month : ℤ) → month ≤ℤ pos 119_999 → month ≤ℤ pos 253_402_300_799_999
more_high month h = omega (arith, ints)

week-high : (local quotient : ℤ) → local ≤ℤ pos 253_402_300_799_999 → (quotient *ℤ pos 604_800_000) ≤ℤ (local -ℤ midnight (neg_ℤ (pos 3))) → quotient ≤ℤ pos 253_402_300_799_999
week-high local quotient h k = omega (arith, ints)

pub number-high : (p : Period) → (local : ℤ) → IsLocal p local → number_of p local ≤ℤ pos 253_402_300_799_999
number-high (Fixed millis) local h = (quotient-between local millis h.0 h.1).1
number-high Week local h =
    week-high local (int_div_euclid (local -ℤ midnight (neg_ℤ (pos 3))) (pos 604_800_000)) h.1 (quotient-low (local -ℤ midnight (neg_ℤ (pos 3))) 604_800_000 (omega arith))
number-high Month local h = more_high (month_of_day (day_at local)) (month-high local h.0 h.1)
number-high Quarter local h =
    quarter-high (month_of_day (day_at local)) (int_div_euclid (month_of_day (day_at local)) (pos 3)) (month-high local h.0 h.1) (quotient-low (month_of_day (day_at local)) 3 (omega arith))
number-high Year local h =
    year-high (month_of_day (day_at local)) (int_div_euclid (month_of_day (day_at local)) (pos 12)) (month-high local h.0 h.1) (quotient-low (month_of_day (day_at local)) 12 (omega arith))

-- a period that begins by a local time has no greater number than its own
pub number-most : (p : Period) → IsPeriod p → (n local : ℤ) → told.IsNumber p n → start_of p n ≤ℤ local → n ≤ℤ number_of p local
number-most p h n local number low =
    subst (λ (k : ℤ). k ≤ℤ number_of p local) (number_of-start_of p h n number) (number-rising p h (start_of p n) local (place-is p n number) low)

-- The start of a period lies at most its length before the times that it holds. What is near has a start in reach, and what is
-- nearer, as an instant of a date field, has a start that is near.
abbrev pub near : Period → ℤ
near (Fixed millis) = neg_ℤ (pos (2 ^ 60))
near Week = neg_ℤ (pos (2 ^ 60))
near Month = neg_ℤ (pos 74_790_000_000_000)
near Quarter = neg_ℤ (pos 74_790_000_000_000)
near Year = neg_ℤ (pos 74_790_000_000_000)

interval-reach : (local start : ℤ) (millis : ℕ) → millis ≤ 185_542_587_100_800_000 → neg_ℤ (pos (2 ^ 60)) ≤ℤ local → local <ℤ (start +ℤ pos millis) → neg_ℤ (pos (2 ^ 62)) ≤ℤ start
interval-reach local start millis h low high = omega (arith, ints)

interval-near : (local start : ℤ) (millis : ℕ) → millis ≤ 185_542_587_100_800_000 → neg_ℤ (pos 62_167_284_000_000) ≤ℤ local → local <ℤ (start +ℤ pos millis) → neg_ℤ (pos (2 ^ 60)) ≤ℤ start
interval-near local start millis h low high = omega (arith, ints)

week_start-reach : (local quotient : ℤ) → neg_ℤ (pos (2 ^ 60)) ≤ℤ local → (local -ℤ midnight (neg_ℤ (pos 3))) <ℤ ((quotient *ℤ pos 604_800_000) +ℤ pos 604_800_000)
    → neg_ℤ (pos (2 ^ 62)) ≤ℤ ((quotient *ℤ pos 604_800_000) +ℤ midnight (neg_ℤ (pos 3)))
week_start-reach local quotient low high = omega (arith, ints)

week_start-near : (local quotient : ℤ) → neg_ℤ (pos 62_167_284_000_000) ≤ℤ local → (local -ℤ midnight (neg_ℤ (pos 3))) <ℤ ((quotient *ℤ pos 604_800_000) +ℤ pos 604_800_000)
    → neg_ℤ (pos (2 ^ 60)) ≤ℤ ((quotient *ℤ pos 604_800_000) +ℤ midnight (neg_ℤ (pos 3)))
week_start-near local quotient low high = omega (arith, ints)

first-low : (month : ℤ) → neg_ℤ (pos 4800) ≤ℤ month → neg_ℤ (pos 74_790_000_000_000) ≤ℤ midnight (first_day month)
first-low month h = midnight-low (first_day month) (first_day-least month h)

pub start-reach : (p : Period) → IsPeriod p → (local : ℤ) → near p ≤ℤ local → earliest p ≤ℤ start_of p (number_of p local)
start-reach (Fixed millis) h local low = interval-reach local (int_div_euclid local (pos millis) *ℤ pos millis) millis h.1 low (quotient-high local millis h.0)
start-reach Week h local low =
    week_start-reach local (int_div_euclid (local -ℤ midnight (neg_ℤ (pos 3))) (pos 604_800_000)) low (quotient-high (local -ℤ midnight (neg_ℤ (pos 3))) 604_800_000 (omega arith))
start-reach Month h local low = first-low (number_of Month local) (told.number-is Month local (day_at-low local low))
start-reach Quarter h local low = first-low (number_of Quarter local *ℤ pos 3) (quarter_months-least (number_of Quarter local) (told.number-is Quarter local (day_at-low local low)))
start-reach Year h local low = first-low (number_of Year local *ℤ pos 12) (year_months-least (number_of Year local) (told.number-is Year local (day_at-low local low)))

nearer : (local : ℤ) → neg_ℤ (pos 62_167_284_000_000) ≤ℤ local → neg_ℤ (pos 74_790_000_000_000) ≤ℤ local
nearer local h = omega (arith, ints)

start-near : (p : Period) → IsPeriod p → (local : ℤ) → neg_ℤ (pos 62_167_284_000_000) ≤ℤ local → near p ≤ℤ start_of p (number_of p local)
start-near (Fixed millis) h local low = interval-near local (int_div_euclid local (pos millis) *ℤ pos millis) millis h.1 low (quotient-high local millis h.0)
start-near Week h local low =
    week_start-near local (int_div_euclid (local -ℤ midnight (neg_ℤ (pos 3))) (pos 604_800_000)) low (quotient-high (local -ℤ midnight (neg_ℤ (pos 3))) 604_800_000 (omega arith))
start-near Month h local low = start-reach Month h local (nearer local low)
start-near Quarter h local low = start-reach Quarter h local (nearer local low)
start-near Year h local low = start-reach Year h local (nearer local low)

-- local times of instants, and of keys
least_near : (p : Period) (local : ℤ) → neg_ℤ (pos 62_167_284_000_000) ≤ℤ local → near p ≤ℤ local
least_near (Fixed millis) local h = omega (arith, ints)
least_near Week local h = omega (arith, ints)
least_near Month local h = nearer local h
least_near Quarter local h = nearer local h
least_near Year local h = nearer local h

near-earliest : (p : Period) (local : ℤ) → near p ≤ℤ local → earliest p ≤ℤ local
near-earliest (Fixed millis) local h = omega (arith, ints)
near-earliest Week local h = omega (arith, ints)
near-earliest Month local h = h
near-earliest Quarter local h = h
near-earliest Year local h = h

least_local : (instant zone : ℤ) → neg_ℤ (pos 62_167_219_200_000) ≤ℤ instant → neg_ℤ (pos 64_800_000) ≤ℤ zone → neg_ℤ (pos 62_167_284_000_000) ≤ℤ (instant +ℤ zone)
least_local instant zone h k = omega (arith, ints)

greatest_local : (instant zone : ℤ) → instant ≤ℤ pos 253_402_214_399_999 → zone ≤ℤ pos 64_800_000 → (instant +ℤ zone) ≤ℤ pos 253_402_300_799_999
greatest_local instant zone h k = omega (arith, ints)

key_local : (key start zone low : ℤ) → low ≤ℤ start → (start -ℤ zone) ≤ℤ key → low ≤ℤ (key +ℤ zone)
key_local key start zone low h k = omega (arith, ints)

pub earliest-least : (p : Period) (local : ℤ) → earliest p ≤ℤ local → neg_ℤ (pos (2 ^ 62)) ≤ℤ local
earliest-least (Fixed millis) local h = h
earliest-least Week local h = h
earliest-least Month local h = omega (arith, ints)
earliest-least Quarter local h = omega (arith, ints)
earliest-least Year local h = omega (arith, ints)

zoned_back : (start key zone : ℤ) → (start -ℤ zone) ≤ℤ key → start ≤ℤ (key +ℤ zone)
zoned_back start key zone h = omega (arith, ints)

more-by : (a : ℤ) (n : ℕ) → a ≤ℤ (a +ℤ pos n)
more-by a n = omega (arith, ints)

least_before_greatest : LEAST_INSTANT ≤ℤ GREATEST_INSTANT
least_before_greatest = omega (arith, ints)

unzoned-less : (a b zone : ℤ) → a <ℤ b → (a -ℤ zone) <ℤ (b -ℤ zone)
unzoned-less a b zone h = omega (arith, ints)

module _ (p : Period) (zone : ℤ) (h : IsPeriod p) (z : IsZone zone) where
  pub instant-near : (instant : ℤ) → IsInstant instant → near p ≤ℤ (instant +ℤ zone)
  instant-near instant held = least_near p (instant +ℤ zone) (least_local instant zone held.0 z.0)

  pub instant-local : (instant : ℤ) → IsInstant instant → IsLocal p (instant +ℤ zone)
  instant-local instant held = (near-earliest p (instant +ℤ zone) (instant-near instant held), greatest_local instant zone held.1 z.1)

  pub key-near : (key : ℤ) → IsBetweenKeys p zone key → near p ≤ℤ (key +ℤ zone)
  key-near key between =
      let first = start_of p (number_of p (LEAST_INSTANT +ℤ zone)) in
      key_local key first zone (near p) (start-near p h (LEAST_INSTANT +ℤ zone) (least_local LEAST_INSTANT zone (same-most LEAST_INSTANT LEAST_INSTANT refl) z.0)) between.0

  pub key-local : (key : ℤ) → IsBetweenKeys p zone key → IsLocal p (key +ℤ zone)
  key-local key between = (near-earliest p (key +ℤ zone) (key-near key between), greatest_local key zone between.1 z.1)

  least_held : IsInstant LEAST_INSTANT
  least_held = (same-most LEAST_INSTANT LEAST_INSTANT refl, least_before_greatest)

  greatest_held : IsInstant GREATEST_INSTANT
  greatest_held = (least_before_greatest, same-most GREATEST_INSTANT GREATEST_INSTANT refl)

  -- the numbers of periods from that of the first instant to that of the last
  pub instant-code : (instant : ℤ) → IsInstant instant → IsCode p zone (number_of p (instant +ℤ zone))
  instant-code instant held = (
    number-rising p h (LEAST_INSTANT +ℤ zone) (instant +ℤ zone) (local-place p (LEAST_INSTANT +ℤ zone) (instant-local LEAST_INSTANT least_held)) (zoned-most LEAST_INSTANT instant zone held.0),
    number-rising p h (instant +ℤ zone) (GREATEST_INSTANT +ℤ zone) (local-place p (instant +ℤ zone) (instant-local instant held)) (zoned-most instant GREATEST_INSTANT zone held.1),
  )

  least-number : told.IsNumber p (number_of p (LEAST_INSTANT +ℤ zone))
  least-number = told.number-is p (LEAST_INSTANT +ℤ zone) (local-place p (LEAST_INSTANT +ℤ zone) (instant-local LEAST_INSTANT least_held))

  pub key-code : (key : ℤ) → IsBetweenKeys p zone key → IsCode p zone (number_of p (key +ℤ zone))
  key-code key between = (
    number-most p h (number_of p (LEAST_INSTANT +ℤ zone)) (key +ℤ zone) least-number (zoned_back (start_of p (number_of p (LEAST_INSTANT +ℤ zone))) key zone between.0),
    number-rising p h (key +ℤ zone) (GREATEST_INSTANT +ℤ zone) (local-place p (key +ℤ zone) (key-local key between)) (zoned-most key GREATEST_INSTANT zone between.1),
  )

  pub code-number : (code : ℤ) → IsCode p zone code → told.IsNumber p code
  code-number code is = told.number-more p (number_of p (LEAST_INSTANT +ℤ zone)) code least-number is.0

  pub after-code : (key : ℤ) (n : ℕ) → IsBetweenKeys p zone key → key_after p zone key n ≤ℤ GREATEST_INSTANT → IsCode p zone (number_of p (key +ℤ zone) +ℤ pos n)
  after-code key n between reached =
      let code = key-code key between in
      let low = most_most (number_of p (LEAST_INSTANT +ℤ zone)) (number_of p (key +ℤ zone)) (number_of p (key +ℤ zone) +ℤ pos n) code.0 (more-by (number_of p (key +ℤ zone)) n) in (
        low,
        number-most p h (number_of p (key +ℤ zone) +ℤ pos n) (GREATEST_INSTANT +ℤ zone)
            (told.number-more p (number_of p (LEAST_INSTANT +ℤ zone)) (number_of p (key +ℤ zone) +ℤ pos n) least-number low)
            (zoned_back (start_of p (number_of p (key +ℤ zone) +ℤ pos n)) GREATEST_INSTANT zone reached),
      )

  pub code-high : (code : ℤ) → IsCode p zone code → code ≤ℤ pos 253_402_300_799_999
  code-high code is =
      most_most code (number_of p (GREATEST_INSTANT +ℤ zone)) (pos 253_402_300_799_999) is.1 (number-high p (GREATEST_INSTANT +ℤ zone) (instant-local GREATEST_INSTANT greatest_held))

  -- such a period begins in reach
  pub code-local : (code : ℤ) → IsCode p zone code → IsLocal p (start_of p code)
  code-local code is =
      let least = number_of p (LEAST_INSTANT +ℤ zone) in
      let greatest = number_of p (GREATEST_INSTANT +ℤ zone) in
      let held = instant-local GREATEST_INSTANT greatest_held in
      let first = near-earliest p (start_of p least) (start-near p h (LEAST_INSTANT +ℤ zone) (least_local LEAST_INSTANT zone (same-most LEAST_INSTANT LEAST_INSTANT refl) z.0)) in
      let last = most_most (start_of p greatest) (GREATEST_INSTANT +ℤ zone) (pos 253_402_300_799_999) (begins p h (GREATEST_INSTANT +ℤ zone) (local-place p (GREATEST_INSTANT +ℤ zone) held)) held.1 in (
        most_most (earliest p) (start_of p least) (start_of p code) first (start-most p h least code least-number is.0),
        most_most (start_of p code) (start_of p greatest) (pos 253_402_300_799_999) (start-most p h code greatest (code-number code is) is.1) last,
      )

  pub code-rising : (code other : ℤ) → IsCode p zone code → code <ℤ other → (start_of p code -ℤ zone) <ℤ (start_of p other -ℤ zone)
  code-rising code other is less = unzoned-less (start_of p code) (start_of p other) zone (told.start-rising p h code other (code-number code is) less)
