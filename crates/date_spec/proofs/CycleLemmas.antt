-- The calendar repeats after 400 years, so that first days told by it are those of the calendar.
use Rattle.std.proofs.Common.{◌≡◌, ℕ, zero, suc, ◌+◌, ◌-◌, ◌*◌, ◌/◌, ◌%◌, ◌<◌, ◌≤◌, Bool, true, not, ◌&&◌, ◌||◌, ◌==◌, if◌then◌else◌, [], ◌∷◌, sum, take, slice_index, refl, sym, ◌∙◌, ap, subst, arith, ℤ, pos, neg_ℤ, ◌+ℤ◌, ◌-ℤ◌, ◌*ℤ◌, ◌≤ℤ◌, ◌<ℤ◌}
use Rattle.std.specs.Int.{int_div_euclid}
use Rattle.std.proofs.lemmas.Int.{ints}
use Rattle.date_spec.specs.declared.period.Period.TheVariants.{Month, Quarter, Year}
use Rattle.date_spec.specs.Calendar.{is_leap, year_days, month_days, Date, is_date, days_before_year, days_before_month, days_before, day_number}
use Rattle.date_spec.specs.Periods.{day_at, midnight, month_of_day, first_day, number_of, start_of}
use Rattle.date_spec.proofs.DayLemmas.{counted, days_before_year-next}
use Rattle.date_spec.proofs.MonthLemmas.{days_to-at, days_to-next, first_day-at}
use Rattle.date_spec.proofs.PeriodLemmas.{day_at-time, month-unique}

abbrev leap_by : ℕ → ℕ → ℕ → Bool
leap_by four hundred all = (four == 0) && (not (hundred == 0) || (all == 0))

leap-cycle : (y : ℕ) → is_leap (y + 400) ≡ is_leap y
leap-cycle y =
    let four : (y + 400) % 4 ≡ y % 4 = omega arith in
    let hundred : (y + 400) % 100 ≡ y % 100 = omega arith in
    let all : (y + 400) % 400 ≡ y % 400 = omega arith in
    ap (λ (k : ℕ). leap_by k ((y + 400) % 100) ((y + 400) % 400)) four ∙ ap (λ (k : ℕ). leap_by (y % 4) k ((y + 400) % 400)) hundred ∙ ap (leap_by (y % 4) (y % 100)) all

days_of_cycle : days_before_year 400 ≡ 146_097
unfolding days_before_year
days_of_cycle = refl

days_before_year-cycle : (y : ℕ) → days_before_year (y + 400) ≡ days_before_year y + 146_097
unfolding days_before_year
days_before_year-cycle zero = let none : 0 + 400 ≡ 400 = refl in ap days_before_year none ∙ days_of_cycle
days_before_year-cycle (suc y) =
    let next : suc y + 400 ≡ suc (y + 400) = omega arith in
    let before = days_before_year-cycle y in
    let days : year_days (y + 400) ≡ year_days y = ap (λ (b : Bool). if b then 366 else 365) (leap-cycle y) in
    let more = days_before_year-next (y + 400) in
    ap days_before_year next ∙ omega arith

days_before_month-cycle : (y m : ℕ) → days_before_month (y + 400) m ≡ days_before_month y m
unfolding days_before_month
days_before_month-cycle y m =
    ap (λ (b : Bool). sum (take (m - 1) (31 ∷ (if b then 29 else 28) ∷ 31 ∷ 30 ∷ 31 ∷ 30 ∷ 31 ∷ 31 ∷ 30 ∷ 31 ∷ 30 ∷ 31 ∷ []))) (leap-cycle y)

month_days-cycle : (y m : ℕ) → month_days (y + 400) m ≡ month_days y m
month_days-cycle y m =
    ap (λ (b : Bool). slice_index (31 ∷ (if b then 29 else 28) ∷ 31 ∷ 30 ∷ 31 ∷ 30 ∷ 31 ∷ 31 ∷ 30 ∷ 31 ∷ 30 ∷ 31 ∷ []) (m - 1)) (leap-cycle y)

-- the first day of a month
pub first_day-of : (y m : ℕ) → m < 12 → first_day (pos (y * 12 + m)) ≡ day_number (record { year = y; month = suc m; day = 1 })
first_day-of y m h =
    let later : pos (y * 12 + m) ≡ pos ((y + 400) * 12 + m) -ℤ pos 4800 = omega (arith, ints) in
    let first = first_day-at ((y + 400) * 12 + m) in
    let days = days_to-at ((y + 400) * 12 + m) (y + 400) m refl h in
    let year = days_before_year-cycle y in
    let month = days_before_month-cycle y (suc m) in
    ap first_day later ∙ omega (arith, ints)

first_day-next : (y m : ℕ) → m < 12 → first_day (pos (y * 12 + m) +ℤ pos 1) ≡ first_day (pos (y * 12 + m)) +ℤ pos (month_days y (suc m))
first_day-next y m h =
    let later : pos (y * 12 + m) ≡ pos ((y + 400) * 12 + m) -ℤ pos 4800 = omega (arith, ints) in
    let next : pos (y * 12 + m) +ℤ pos 1 ≡ pos (suc ((y + 400) * 12 + m)) -ℤ pos 4800 = omega (arith, ints) in
    let first = ap first_day later ∙ first_day-at ((y + 400) * 12 + m) in
    let second = ap first_day next ∙ first_day-at (suc ((y + 400) * 12 + m)) in
    let days = days_to-next ((y + 400) * 12 + m) (y + 400) m refl h in
    let length = month_days-cycle y (suc m) in
    omega (arith, ints)

-- a date lies in the month of its number
first-low : (first day : ℤ) (d : ℕ) → 1 ≤ d → day ≡ first +ℤ pos (d - 1) → first ≤ℤ day
first-low first day d h e = omega (arith, ints)

first-high : (first next day : ℤ) (d length : ℕ) → 1 ≤ d → d ≤ length → day ≡ first +ℤ pos (d - 1) → next ≡ first +ℤ pos length → day <ℤ next
first-high first next day d length h k e f = omega (arith, ints)

first-least : (day : ℤ) (n : ℕ) → day ≡ pos n -ℤ pos 719_528 → neg_ℤ (pos 865_625) ≤ℤ day
first-least day n e = omega (arith, ints)

not_negative : (n : ℕ) → neg_ℤ (pos 4800) ≤ℤ pos n
not_negative n = omega (arith, ints)

pub month_of-date : (d : Date) → is_date d ≡ true → month_of_day (day_number d) ≡ pos (d.year * 12 + (d.month - 1))
month_of-date d h =
    let c = counted d h in
    let low = c.low in
    let high = c.high in
    let m = d.month - 1 in
    let month : suc (d.month - 1) ≡ d.month = omega arith in
    let below : d.month - 1 < 12 = omega arith in
    let first = first_day-of d.year (d.month - 1) below in
    let same = ap (λ (k : ℕ). day_number (record { year = d.year; month = k; day = 1 })) month in
    let begin = first_day (pos (d.year * 12 + (d.month - 1))) in
    let place : day_number d ≡ first_day (pos (d.year * 12 + (d.month - 1))) +ℤ pos (d.day - 1) = let one = c.first in let from = first ∙ same in omega (arith, ints) in
    let length : d.day ≤ month_days d.year (suc (d.month - 1)) = subst (λ (k : ℕ). d.day ≤ month_days d.year k) (sym month) c.last in
    month-unique (day_number d) (pos (d.year * 12 + (d.month - 1))) (first-least (day_number d) (days_before d) refl) (not_negative (d.year * 12 + (d.month - 1)))
    (first-low begin (day_number d) d.day c.first place)
    (first-high begin (first_day (pos (d.year * 12 + (d.month - 1)) +ℤ pos 1)) (day_number d) d.day (month_days d.year (suc (d.month - 1))) c.first length place (first_day-next d.year (d.month - 1) below))

-- so do the periods that are made of months
module _ (d : Date) (h : is_date d ≡ true) (time : ℕ) (short : time < 86_400_000) where
  abbrev local : ℤ
  local = midnight (day_number d) +ℤ pos time

  month-at : month_of_day (day_at local) ≡ pos (d.year * 12 + (d.month - 1))
  month-at = ap month_of_day (day_at-time (day_number d) time short) ∙ month_of-date d h

  pub month-first : start_of Month (number_of Month local) ≡ midnight (day_number (record { year = d.year; month = d.month; day = 1 }))
  month-first =
      let c = counted d h in
      let low = c.low in
      let high = c.high in
      let month : suc (d.month - 1) ≡ d.month = omega arith in
      ap (λ (m : ℤ). midnight (first_day m)) month-at ∙ ap midnight (first_day-of d.year (d.month - 1) (omega arith))
      ∙ ap (λ (k : ℕ). midnight (day_number (record { year = d.year; month = k; day = 1 }))) month

  pub quarter-first : start_of Quarter (number_of Quarter local) ≡ midnight (day_number (record { year = d.year; month = (d.month - 1) / 3 * 3 + 1; day = 1 }))
  quarter-first =
      let c = counted d h in
      let low = c.low in
      let high = c.high in
      let month : suc ((d.month - 1) / 3 * 3) ≡ (d.month - 1) / 3 * 3 + 1 = omega arith in
      let whole : pos ((d.year * 12 + (d.month - 1)) / 3) *ℤ pos 3 ≡ pos (d.year * 12 + (d.month - 1) / 3 * 3) = omega (arith, ints) in
      ap (λ (m : ℤ). midnight (first_day (int_div_euclid m (pos 3) *ℤ pos 3))) month-at ∙ ap (λ (m : ℤ). midnight (first_day m)) whole
      ∙ ap midnight (first_day-of d.year ((d.month - 1) / 3 * 3) (omega arith)) ∙ ap (λ (k : ℕ). midnight (day_number (record { year = d.year; month = k; day = 1 }))) month

  pub year-first : start_of Year (number_of Year local) ≡ midnight (day_number (record { year = d.year; month = 1; day = 1 }))
  year-first =
      let c = counted d h in
      let low = c.low in
      let high = c.high in
      let whole : pos ((d.year * 12 + (d.month - 1)) / 12) *ℤ pos 12 ≡ pos (d.year * 12 + 0) = omega (arith, ints) in
      ap (λ (m : ℤ). midnight (first_day (int_div_euclid m (pos 12) *ℤ pos 12))) month-at ∙ ap (λ (m : ℤ). midnight (first_day m)) whole
      ∙ ap midnight (first_day-of d.year 0 (omega arith))
