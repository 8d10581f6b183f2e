-- The periods of a date histogram (ISO 8601-1:2019, 'The Gregorian calendar', 'Calendar week', 'Calendar month', 'Local time';
-- Elasticsearch Reference 8, 'Date histogram aggregation', `calendar_interval`, `fixed_interval`, `time_zone`).
-- A local time is what a clock of the zone shows, in milliseconds from 1970-01-01T00:00.
use Rattle.std.specs.Prelude.{ℕ, ◌+◌, ◌-◌, ◌*◌, ◌/◌, ◌%◌, ◌<◌, ◌≤◌, ℤ, pos, neg_ℤ, ◌+ℤ◌, ◌-ℤ◌, ◌*ℤ◌, ◌≤ℤ◌, int_le, unsigned_abs, if◌then◌else◌, List, [], map}
use Rattle.std.specs.Int.{int_div_euclid}
use Rattle.std.specs.List.{range_with_len}
use Rattle.date_spec.specs.declared.period.Period.{Period}
use Rattle.date_spec.specs.declared.period.Period.TheVariants.{Fixed, Week, Month, Quarter, Year}
use Rattle.date_spec.specs.declared.period.TheConstants.{GREATEST_INTERVAL}
use Rattle.date_spec.specs.declared.range.TheConstants.{GREATEST_INSTANT, LEAST_INSTANT}
use Rattle.date_spec.specs.Calendar.{day_number, date_of}
use Rattle.date_spec.specs.Instants.{day_millis}

-- the number of the day that holds a local time
abbrev pub day_at : ℤ → ℤ
day_at local = int_div_euclid local (pos day_millis)

-- the local time at which a day begins
abbrev pub midnight : ℤ → ℤ
midnight day = day *ℤ pos day_millis

-- weeks begin on Mondays: 1969-12-29, three days before a Thursday, is one
abbrev pub week_millis : ℕ
week_millis = 7 * day_millis

abbrev pub first_monday : ℤ
first_monday = midnight (neg_ℤ (pos 3))

-- The calendar repeats after 400 years, which have 4,800 months and 146,097 days. So a month before 0000-01 is told by the one
-- 400 years after it.
abbrev pub cycle_months : ℕ
cycle_months = 4800

abbrev pub cycle_days : ℕ
cycle_days = 146_097

-- the number of the month that holds a day of the year -400 or later: 0 is 0000-01, and -1 the month before it
unfoldable pub month_of_day : ℤ → ℤ
month_of_day day = let later = date_of (day +ℤ pos cycle_days) in pos (later.year * 12 + (later.month - 1)) -ℤ pos cycle_months

-- the first day of the month of this number
unfoldable pub first_day : ℤ → ℤ
first_day month =
    let later = unsigned_abs (month +ℤ pos cycle_months) in
    day_number (record { year = later / 12; month = later % 12 + 1; day = 1 }) -ℤ pos cycle_days

-- periods are numbered as they follow one another: the number of the one that holds a local time
abbrev pub number_of : Period → ℤ → ℤ
number_of (Fixed millis) local = int_div_euclid local (pos millis)
number_of Week local = int_div_euclid (local -ℤ first_monday) (pos week_millis)
number_of Month local = month_of_day (day_at local)
number_of Quarter local = int_div_euclid (month_of_day (day_at local)) (pos 3)
number_of Year local = int_div_euclid (month_of_day (day_at local)) (pos 12)

-- the local time at which the period of this number begins
abbrev pub start_of : Period → ℤ → ℤ
start_of (Fixed millis) number = number *ℤ pos millis
start_of Week number = number *ℤ pos week_millis +ℤ first_monday
start_of Month number = midnight (first_day number)
start_of Quarter number = midnight (first_day (number *ℤ pos 3))
start_of Year number = midnight (first_day (number *ℤ pos 12))

-- the key of an instant, in a zone that is so many milliseconds ahead of UTC: the instant at which its period begins
abbrev pub period_key : Period → ℤ → ℤ → ℤ
period_key period zone instant = start_of period (number_of period (instant +ℤ zone)) -ℤ zone

-- the key that is so many periods after a key
abbrev pub key_after : Period → ℤ → ℤ → ℕ → ℤ
key_after period zone key n = start_of period (number_of period (key +ℤ zone) +ℤ pos n) -ℤ zone

-- how many periods lead from a key to a later one
abbrev pub steps_between : Period → ℤ → ℤ → ℤ → ℕ
steps_between period zone from to = unsigned_abs (number_of period (to +ℤ zone) -ℤ number_of period (from +ℤ zone))

-- the keys from one to a later one: after each the key of the next period
abbrev pub period_keys : Period → ℤ → ℤ → ℤ → List ℤ
period_keys period zone from to =
    if int_le from to then map (key_after period zone from) (range_with_len 0 (steps_between period zone from to + 1)) else []

-- a fixed interval is at least a millisecond, and at most 2,147,483,647 days
abbrev pub IsPeriod : Period → Type 0
IsPeriod (Fixed millis) = (0 < millis) × (millis ≤ GREATEST_INTERVAL)
IsPeriod Week = Unit {0}
IsPeriod Month = Unit {0}
IsPeriod Quarter = Unit {0}
IsPeriod Year = Unit {0}

-- at most 18 hours ahead of UTC or behind it
abbrev pub IsZone : ℤ → Type 0
IsZone zone = (neg_ℤ (pos 64_800_000) ≤ℤ zone) × (zone ≤ℤ pos 64_800_000)

-- an instant that a date field holds
abbrev pub IsInstant : ℤ → Type 0
IsInstant instant = (LEAST_INSTANT ≤ℤ instant) × (instant ≤ℤ GREATEST_INSTANT)

-- not before the first key of an instant, nor after the last instant
abbrev pub IsBetweenKeys : Period → ℤ → ℤ → Type 0
IsBetweenKeys period zone key = (period_key period zone LEAST_INSTANT ≤ℤ key) × (key ≤ℤ GREATEST_INSTANT)
