-- The Gregorian calendar, from the year 0000 on (ISO 8601-1:2019, 'The Gregorian calendar'; RFC 3339 5.7 and Appendix C).
use Rattle.std.specs.Prelude.{ℕ, zero, suc, ◌+◌, ◌-◌, ◌/◌, ◌%◌, ◌==◌, nat_le, ℤ, pos, ◌+ℤ◌, ◌-ℤ◌, unsigned_abs, Bool, not, ◌&&◌, ◌||◌, if◌then◌else◌, List, [], ◌∷◌, slice_index, sum, take}

-- every fourth year has a leap day, but of the years that end a century only every fourth
abbrev pub is_leap : ℕ → Bool
is_leap year = (year % 4 == 0) && (not (year % 100 == 0) || (year % 400 == 0))

abbrev pub year_days : ℕ → ℕ
year_days year = if is_leap year then 366 else 365

-- the days of each month, January first
abbrev pub month_lengths : ℕ → List ℕ
month_lengths year = 31 ∷ (if is_leap year then 29 else 28) ∷ 31 ∷ 30 ∷ 31 ∷ 30 ∷ 31 ∷ 31 ∷ 30 ∷ 31 ∷ 30 ∷ 31 ∷ []

-- the days of a month from 1 to 12
abbrev pub month_days : ℕ → ℕ → ℕ
month_days year month = slice_index (month_lengths year) (month - 1)

-- a year, a month from 1, and a day of the month from 1
pub record Date : Type 0 where
  pub year : ℕ
  pub month : ℕ
  pub day : ℕ

-- the calendar has this date
abbrev pub is_date : Date → Bool
is_date d = nat_le 1 d.month && nat_le d.month 12 && nat_le 1 d.day && nat_le d.day (month_days d.year d.month)

-- the days of all years before this one
unfoldable pub days_before_year : ℕ → ℕ
days_before_year zero = 0
days_before_year (suc year) = days_before_year year + year_days year

-- the days of a year before this month
unfoldable pub days_before_month : ℕ → ℕ → ℕ
days_before_month year month = sum (take (month - 1) (month_lengths year))

-- the days before this date, 0000-01-01 being the first
abbrev pub days_before : Date → ℕ
days_before d = days_before_year d.year + days_before_month d.year d.month + (d.day - 1)

-- the days before 1970-01-01
abbrev pub days_before_epoch : ℕ
days_before_epoch = 719_528

-- the number of a day: 0 is 1970-01-01, 1 the day after it, -1 the day before it
abbrev pub day_number : Date → ℤ
day_number d = pos (days_before d) -ℤ pos days_before_epoch

-- of the numbers from 1 to k the last that begins at n or before it; 0 where none does
unfoldable pub last_begun : (ℕ → ℕ) → ℕ → ℕ → ℕ
last_begun begin n zero = 0
last_begun begin n (suc k) = if nat_le (begin (suc k)) n then suc k else last_begun begin n k

-- the year of the day that has n days before it: at most n / 365 whole years, since none has fewer than 365 days
abbrev pub year_after : ℕ → ℕ
year_after n = last_begun days_before_year n (n / 365)

-- the month of the day that has n days of its year before it
abbrev pub month_after : ℕ → ℕ → ℕ
month_after year n = last_begun (days_before_month year) n 12

-- the date that has n days before it
unfoldable pub date_after : ℕ → Date
date_after n =
    let year = year_after n in
    let of_year = n - days_before_year year in
    let month = month_after year of_year in
    record { year = year; month = month; day = of_year - days_before_month year month + 1 }

-- the date of this number, where it is not before 0000-01-01
abbrev pub date_of : ℤ → Date
date_of number = date_after (unsigned_abs (number +ℤ pos days_before_epoch))
