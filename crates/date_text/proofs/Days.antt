-- The days of the calendar crate are those of the definitions.
use Rattle.std.proofs.Common.{◌≡◌, ℕ, zero, suc, ◌+◌, ◌-◌, ◌≤◌, ◌<◌, true, refl, sym, ◌∙◌, ap, subst, arith, Some, ℤ, pos, neg_ℤ, ◌-ℤ◌, ◌≤ℤ◌}
use Rattle.std.specs.Prelude.{unsigned_abs}
use Rattle.std.proofs.lemmas.Int.{ints, by_lt_z}
use Rattle.jiff_core.specs.Calendar.{days_in_month, days_of_years, days_of_months, day_count, days_from_civil}
use Rattle.std.proofs.lemmas.Bool.{le-leb}
use Rattle.date_spec.proofs.ShapeLemmas.{and_both}
use Rattle.date_text.specs.Parts.{numbered}
use Rattle.jiff_core.specs.declared.civil.date.Date.{Date}
use Rattle.jiff_core.specs.Date.{epoch_day}
use Rattle.jiff_core.proofs.SignedLemmas.{signed_arith}
use Rattle.jiff_core.proofs.CalendarLemmas.{day_count-epoch, days_from_civil-day_count, day_count-lt_year}
use Rattle.date_spec.specs.Calendar.{year_days, month_days, days_before_year, days_before_month, days_before, day_number, is_date, date_of}
use Rattle.date_spec.proofs.DayLemmas.{date_of-day_number}
use Rattle.date_text.proofs.ClockLemmas.{some_if}

back : (y : ℕ) → pos (y + 10000) -ℤ pos 10000 ≡ pos y
back y = omega (arith, signed_arith)

days_of_years-next : (y : ℕ) → days_of_years (y + 10000) ≡ days_of_years 10000 + days_before_year y → days_of_years (suc (y + 10000)) ≡ days_of_years 10000 + (days_before_year y + year_days y)
unfolding days_of_years
days_of_years-next y h = rw (back y) (omega (arith, h))

-- the years before the year 0000 are those that the calendar crate counts more
days_of_years-from_zero : (y : ℕ) → days_of_years (y + 10000) ≡ days_of_years 10000 + days_before_year y
unfolding days_before_year
days_of_years-from_zero zero = let none : 0 + 10000 ≡ 10000 = refl in omega arith
days_of_years-from_zero (suc y) =
    let one : suc y + 10000 ≡ suc (y + 10000) = omega arith in
    rw one (days_of_years-next y (days_of_years-from_zero y))

pub days_of_months-here : (y m : ℕ) → m < 12 → days_of_months (pos y) m ≡ days_before_month y (m + 1)
unfolding days_of_months days_before_month
days_of_months-here y zero h = grind arith
days_of_months-here y (suc zero) h = grind arith
days_of_months-here y (suc (suc zero)) h = grind arith
days_of_months-here y (suc (suc (suc zero))) h = grind arith
days_of_months-here y (suc (suc (suc (suc zero)))) h = grind arith
days_of_months-here y (suc (suc (suc (suc (suc zero))))) h = grind arith
days_of_months-here y (suc (suc (suc (suc (suc (suc zero)))))) h = grind arith
days_of_months-here y (suc (suc (suc (suc (suc (suc (suc zero))))))) h = grind arith
days_of_months-here y (suc (suc (suc (suc (suc (suc (suc (suc zero)))))))) h = grind arith
days_of_months-here y (suc (suc (suc (suc (suc (suc (suc (suc (suc zero))))))))) h = grind arith
days_of_months-here y (suc (suc (suc (suc (suc (suc (suc (suc (suc (suc zero)))))))))) h = grind arith
days_of_months-here y (suc (suc (suc (suc (suc (suc (suc (suc (suc (suc (suc zero))))))))))) h = grind arith
days_of_months-here y (suc (suc (suc (suc (suc (suc (suc (suc (suc (suc (suc (suc m)))))))))))) h = absurd (omega arith)

days_in_month-next : (y m : ℕ) → m < 12 → days_in_month (pos y) (suc m) ≡ month_days y (suc m)
days_in_month-next y zero h = refl
days_in_month-next y (suc zero) h = refl
days_in_month-next y (suc (suc zero)) h = refl
days_in_month-next y (suc (suc (suc zero))) h = refl
days_in_month-next y (suc (suc (suc (suc zero)))) h = refl
days_in_month-next y (suc (suc (suc (suc (suc zero))))) h = refl
days_in_month-next y (suc (suc (suc (suc (suc (suc zero)))))) h = refl
days_in_month-next y (suc (suc (suc (suc (suc (suc (suc zero))))))) h = refl
days_in_month-next y (suc (suc (suc (suc (suc (suc (suc (suc zero)))))))) h = refl
days_in_month-next y (suc (suc (suc (suc (suc (suc (suc (suc (suc zero))))))))) h = refl
days_in_month-next y (suc (suc (suc (suc (suc (suc (suc (suc (suc (suc zero)))))))))) h = refl
days_in_month-next y (suc (suc (suc (suc (suc (suc (suc (suc (suc (suc (suc zero))))))))))) h = refl
days_in_month-next y (suc (suc (suc (suc (suc (suc (suc (suc (suc (suc (suc (suc m)))))))))))) h = absurd (omega arith)

days_in_month-here : (y m : ℕ) → 1 ≤ m → m ≤ 12 → days_in_month (pos y) m ≡ month_days y m
days_in_month-here y zero low high = absurd (omega arith)
days_in_month-here y (suc m) low high = days_in_month-next y m (omega arith)

-- the place of a date among all days, the first of the year -10000 being the first
day_count-here : (y m d : ℕ) → 1 ≤ m → m ≤ 12 → 1 ≤ d → day_count (pos y) m d ≡ days_of_years 10000 + days_before (record { year = y; month = m; day = d })
unfolding day_count
day_count-here y m d low high first =
    let before = days_of_months-here y (m - 1) (omega arith) in
    let same : m - 1 + 1 ≡ m = omega arith in
    omega (arith, days_of_years-from_zero y, rw same at before)

days_before-epoch : days_before (record { year = 1970; month = 1; day = 1 }) ≡ 719_528
unfolding days_before_year days_before_month
days_before-epoch = refl

days_before-first : days_of_years 10000 + 719_528 ≡ 4_371_953
days_before-first = sym (ap (λ n. days_of_years 10000 + n) days_before-epoch) ∙ sym (day_count-here 1970 1 1 (omega arith) (omega arith) (omega arith)) ∙ day_count-epoch

-- the day numbers of a date are one
pub days_from_civil-here : (y m d : ℕ) → 1 ≤ m → m ≤ 12 → 1 ≤ d → days_from_civil (pos y) m d ≡ day_number (record { year = y; month = m; day = d })
days_from_civil-here y m d low high first =
    omega (arith, signed_arith, days_from_civil-day_count (pos y) m d, day_count-here y m d low high first, days_before-first)

-- the definitions have each date that the calendar crate has
is_date-here : (y m d : ℕ) → 1 ≤ m → m ≤ 12 → 1 ≤ d → d ≤ days_in_month (pos y) m → is_date (record { year = y; month = m; day = d }) ≡ true
is_date-here y m d low high first last =
    and_both _ _ (and_both _ _ (and_both _ _ (le-leb 1 m low) (le-leb m 12 high)) (le-leb 1 d first)) (le-leb d _ (subst (λ n. d ≤ n) (days_in_month-here y m low high) last))

-- the number of a date is that of the definitions
pub numbered-epoch_day : (date : Date) (y m d : ℕ) (number : ℤ) → date.year ≡ pos y → date.month ≡ m → date.day ≡ d → number ≡ epoch_day date → Some number ≡ numbered (record { year = y; month = m; day = d })
numbered-epoch_day date y m d number year month day e =
    let low : 1 ≤ m = omega (arith, date.month_in) in
    let high : m ≤ 12 = omega (arith, date.month_in) in
    let first : 1 ≤ d = omega (arith, date.day_in.0) in
    let last : d ≤ days_in_month (pos y) m = rw (year, month, day) at date.day_in.1 in
    let here : number ≡ days_from_civil (pos y) m d = rw (year, month, day) at e in
    rw (is_date-here y m d low high first last) (ap Some (here ∙ days_from_civil-here y m d low high first))

days_before-zero : days_before (record { year = 0; month = 1; day = 1 }) ≡ 0
unfolding days_before_year days_before_month
days_before-zero = refl

-- no year before the year 0000 has a day of this number or a later one
pub year_from_zero : (date : Date) → neg_ℤ (pos 719_528) ≤ℤ epoch_day date → pos 0 ≤ℤ date.year
year_from_zero date h =
    by_lt_z date.year (pos 0)
    (λ before. absurd (omega (arith, signed_arith, days_from_civil-day_count date.year date.month date.day, day_count-lt_year date.year date.month date.day (pos 0) 1 1 (date.year_in, date.month_in, date.day_in) (omega arith) before, day_count-here 0 1 1 (omega arith) (omega arith) (omega arith), days_before-zero, days_before-first)))
    (λ from. from)

-- the date of the calendar crate with a number is the date of that number
pub date_of-epoch_day : (date : Date) → pos 0 ≤ℤ date.year → date_of (epoch_day date) ≡ record { year = unsigned_abs date.year; month = date.month; day = date.day }
date_of-epoch_day date from =
    let year : date.year ≡ pos (unsigned_abs date.year) = omega (arith, ints) in
    let number = some_if _ (day_number (record { year = unsigned_abs date.year; month = date.month; day = date.day })) (epoch_day date) (numbered-epoch_day date (unsigned_abs date.year) date.month date.day (epoch_day date) year refl refl refl) in
    ap date_of number.1 ∙ date_of-day_number (record { year = unsigned_abs date.year; month = date.month; day = date.day }) number.0
