-- Instants: whole milliseconds from 1970-01-01T00:00:00.000Z, 86,400,000 in each day (POSIX.1-2017 Base Definitions 4.16
-- 'Seconds Since the Epoch'); and times of day (ISO 8601-1:2019, 'Clock time').
use Rattle.std.specs.Prelude.{ℕ, ◌+◌, ◌*◌, ◌/◌, ◌%◌, nat_lt, ℤ, pos, ◌+ℤ◌, ◌-ℤ◌, ◌*ℤ◌, int_le, unsigned_abs, Bool, ◌&&◌}
use Rattle.std.specs.Int.{int_div_euclid, int_rem_euclid}
use Rattle.date_spec.specs.declared.range.TheConstants.{GREATEST_INSTANT, LEAST_INSTANT}
use Rattle.date_spec.specs.Calendar.{Date, day_number, date_of}

abbrev pub day_millis : ℕ
day_millis = 86_400_000

pub record Time : Type 0 where
  pub hour : ℕ
  pub minute : ℕ
  pub second : ℕ
  pub milli : ℕ

-- a clock shows this time: it shows no 24:00, and no leap second
abbrev pub is_time : Time → Bool
is_time t = nat_lt t.hour 24 && nat_lt t.minute 60 && nat_lt t.second 60 && nat_lt t.milli 1000

-- the milliseconds since midnight
abbrev pub time_millis : Time → ℕ
time_millis t = ((t.hour * 60 + t.minute) * 60 + t.second) * 1000 + t.milli

-- the time so many milliseconds after midnight
abbrev pub time_after : ℕ → Time
time_after n = record { hour = n / 3_600_000; minute = n / 60_000 % 60; second = n / 1000 % 60; milli = n % 1000 }

-- the instant at which a clock that is so many milliseconds ahead of UTC shows this date and time
abbrev pub instant_at : Date → Time → ℤ → ℤ
instant_at d t ahead = (day_number d *ℤ pos day_millis +ℤ pos (time_millis t)) -ℤ ahead

-- the date and the time that a clock in UTC shows at an instant
abbrev pub date_at : ℤ → Date
date_at instant = date_of (int_div_euclid instant (pos day_millis))

abbrev pub time_at : ℤ → Time
time_at instant = time_after (unsigned_abs (int_rem_euclid instant (pos day_millis)))

-- the years 0000 to 9999 without their last day
abbrev pub is_in_range : ℤ → Bool
is_in_range instant = int_le LEAST_INSTANT instant && int_le instant GREATEST_INSTANT
