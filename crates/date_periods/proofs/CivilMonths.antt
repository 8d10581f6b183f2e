-- The months of the calendar crate are those of the definitions.
use Rattle.std.proofs.Common.{◌≡◌, ℕ, zero, suc, ◌+◌, ◌-◌, ◌*◌, ◌%◌, ◌<◌, ◌≤◌, Bool, not, ◌&&◌, ◌||◌, ◌==◌, if◌then◌else◌, refl, sym, ◌∙◌, ap, subst, arith, ℤ, pos, negsuc, neg_ℤ, ◌+ℤ◌, ◌-ℤ◌, ◌*ℤ◌, ◌≤ℤ◌, unsigned_abs}
use Rattle.std.proofs.lemmas.Int.{ints, by_lt_z}
use Rattle.jiff_core.specs.Calendar.{IsCivilDate, is_leap_year, days_in_month, days_in_year, days_of_years, days_of_months, day_count, days_from_civil}
use Rattle.jiff_core.specs.declared.civil.date.Date.{Date}
use Rattle.jiff_core.specs.Date.{epoch_day}
use Rattle.jiff_core.proofs.SignedLemmas.{signed_arith}
use Rattle.jiff_core.proofs.CalendarLemmas.{day_count-epoch, day_count-day_of_year, day_count-day, day_count-lt_year, days_from_civil-day_count, days_of_months-zero, days_of_months_more}
use Rattle.date_spec.specs.Calendar.{is_leap, year_days, month_days, days_before_year, days_before_month}
use Rattle.date_spec.specs.Periods.{month_of_day, first_day}
use Rattle.date_spec.proofs.DayLemmas.{days_before_month-next}
use Rattle.date_spec.proofs.MonthLemmas.{days_to, days_to-at, days_to-next, first_day-at, first_month-none}
use Rattle.date_spec.proofs.PeriodLemmas.{above, month-unique}

abbrev leap_by : Bool → Bool → Bool → Bool
leap_by four hundred all = four && (not hundred || all)

same_test : (a b : ℕ) → (a ≡ 0 → b ≡ 0) → (b ≡ 0 → a ≡ 0) → (a == 0) ≡ (b == 0)
same_test a b f g = grind arith

-- years that lie 400 years apart have the same days
leap-on : (n a : ℕ) → n ≡ a + 400 → is_leap_year (pos a) ≡ is_leap n
leap-on n a e =
    let four : a % 4 ≡ n % 4 = omega arith in
    let hundred : a % 100 ≡ n % 100 = omega arith in
    let all : a % 400 ≡ n % 400 = omega arith in
    ap (λ (k : ℕ). leap_by (k == 0) (a % 100 == 0) (a % 400 == 0)) four ∙ ap (λ (k : ℕ). leap_by (n % 4 == 0) (k == 0) (a % 400 == 0)) hundred
    ∙ ap (λ (k : ℕ). leap_by (n % 4 == 0) (n % 100 == 0) (k == 0)) all

leap-back : (n a : ℕ) → n + suc a ≡ 400 → is_leap_year (negsuc a) ≡ is_leap n
leap-back n a e =
    let four = same_test (suc a % 4) (n % 4) (λ z. omega arith) (λ z. omega arith) in
    let hundred = same_test (suc a % 100) (n % 100) (λ z. omega arith) (λ z. omega arith) in
    let all = same_test (suc a % 400) (n % 400) (λ z. omega arith) (λ z. omega arith) in
    ap (λ (b : Bool). leap_by b (suc a % 100 == 0) (suc a % 400 == 0)) four ∙ ap (λ (b : Bool). leap_by (n % 4 == 0) b (suc a % 400 == 0)) hundred
    ∙ ap (leap_by (n % 4 == 0) (n % 100 == 0)) all

leap-same : (n : ℕ) (y : ℤ) → y ≡ pos n -ℤ pos 400 → is_leap_year y ≡ is_leap n
leap-same n (pos a) e = leap-on n a (omega (arith, ints))
leap-same n (negsuc a) e = leap-back n a (omega (arith, ints))

year-same : (n : ℕ) (y : ℤ) → y ≡ pos n -ℤ pos 400 → days_in_year y ≡ year_days n
year-same n y e = ap (λ (b : Bool). if b then 366 else 365) (leap-same n y e)

-- the years before are those that the calendar crate counts more
days_of_years-next : (n b x : ℕ) → days_of_years (n + 9600) ≡ b + x → days_of_years (suc (n + 9600)) ≡ b + (x + year_days n)
unfolding days_of_years
days_of_years-next n b x h =
    let year = year-same n (pos (n + 9600) -ℤ pos 10000) (omega (arith, ints)) in
    omega arith

days_of_years-here : (n b : ℕ) → days_of_years 9600 ≡ b → days_of_years (n + 9600) ≡ b + days_before_year n
unfolding days_before_year
days_of_years-here zero b e = let none : 0 + 9600 ≡ 9600 = refl in ap days_of_years none ∙ e ∙ (let same : b ≡ b + 0 = omega arith in same)
days_of_years-here (suc n) b e =
    let next : suc n + 9600 ≡ suc (n + 9600) = omega arith in
    ap days_of_years next ∙ days_of_years-next n b (days_before_year n) (days_of_years-here n b e)

day_count-first : (y : ℤ) (n : ℕ) → y +ℤ pos 10000 ≡ pos n → day_count y 1 1 ≡ days_of_years n
unfolding day_count
day_count-first y n e =
    let years : days_of_years (unsigned_abs (y +ℤ pos 10000)) ≡ days_of_years n = ap (λ (z : ℤ). days_of_years (unsigned_abs z)) e in
    let months = days_of_months-zero y in
    omega arith

first_of_year : (n : ℕ) (y : ℤ) → y ≡ pos n -ℤ pos 400 → day_count y 1 1 ≡ days_of_years 9600 + days_before_year n
first_of_year n y e = day_count-first y (n + 9600) (omega (arith, ints)) ∙ days_of_years-here n (days_of_years 9600) refl

days_before_year-epoch : days_before_year 2370 ≡ 865_625
unfolding days_before_year
days_before_year-epoch = refl

years-before : days_of_years 9600 + 865_625 ≡ 4_371_953
years-before = ap (λ (k : ℕ). days_of_years 9600 + k) (sym days_before_year-epoch) ∙ sym (first_of_year 2370 (pos 1970) refl) ∙ day_count-epoch

first_of_year-is : (n : ℕ) (y : ℤ) → y ≡ pos n -ℤ pos 400 → day_count y 1 1 + 865_625 ≡ days_before_year n + 4_371_953
first_of_year-is n y e =
    let first = first_of_year n y e in
    let before = years-before in
    omega arith

-- the months have the same days
month-same : (y : ℤ) (n k : ℕ) → is_leap_year y ≡ is_leap n → days_in_month y k ≡ days_in_month (pos n) k
month-same y n k leap = ap (λ (b : Bool). if k == 2 then (if b then 29 else 28) else (if (k == 4) || (k == 6) || (k == 9) || (k == 11) then 30 else 31)) leap

days_in_month-next : (y m : ℕ) → m < 12 → days_in_month (pos y) (suc m) ≡ month_days y (suc m)
days_in_month-next y zero h = refl
days_in_month-next y (suc zero) h = refl
days_in_month-next y (suc (suc zero)) h = refl
days_in_month-next y (suc (suc (suc zero))) h = refl
days_in_month-next y (suc (suc (suc (suc zero)))) h = refl
days_in_month-next y (suc (suc (suc (suc (suc zero))))) h = refl
days_in_month-next y (suc (suc (suc (suc (suc (suc zero)))))) h = refl
days_in_month-next y (suc (suc (suc (suc (suc (suc (suc zero))))))) h = refl
days_in_month-next y (suc (suc (suc (suc (suc (suc (suc (suc zero)))))))) h = refl
days_in_month-next y (suc (suc (suc (suc (suc (suc (suc (suc (suc zero))))))))) h = refl
days_in_month-next y (suc (suc (suc (suc (suc (suc (suc (suc (suc (suc zero)))))))))) h = refl
days_in_month-next y (suc (suc (suc (suc (suc (suc (suc (suc (suc (suc (suc zero))))))))))) h = refl
days_in_month-next y (suc (suc (suc (suc (suc (suc (suc (suc (suc (suc (suc (suc m)))))))))))) h = absurd (omega arith)

month-is : (n m : ℕ) (y : ℤ) → y ≡ pos n -ℤ pos 400 → m < 12 → days_in_month y (suc m) ≡ month_days n (suc m)
month-is n m y e h = month-same y n (suc m) (leap-same n y e) ∙ days_in_month-next n m h

months-before : (n m : ℕ) (y : ℤ) → y ≡ pos n -ℤ pos 400 → m < 12 → days_of_months y m ≡ days_before_month n (suc m)
months-before n zero y e h = days_of_months-zero y ∙ sym (first_month-none n)
months-before n (suc m) y e h =
    let more = days_of_months_more y (suc m) (omega arith) in
    let back : suc m - 1 ≡ m = omega arith in
    let before = ap (days_of_months y) back ∙ months-before n m y e (omega arith) in
    let days = month-is n m y e (omega arith) in
    let next = days_before_month-next n m (omega arith) in
    omega arith

-- the first days of months are those of the definitions
first-counted : (n m : ℕ) (y : ℤ) → y ≡ pos n -ℤ pos 400 → m < 12 → day_count y (suc m) 1 + 865_625 ≡ days_to (n * 12 + m) + 4_371_953
first-counted n m y e h =
    let day = day_count-day_of_year y (suc m) 1 (omega arith) in
    let back : suc m - 1 ≡ m = omega arith in
    let before = ap (days_of_months y) back ∙ months-before n m y e h in
    let first = first_of_year-is n y e in
    let to = days_to-at (n * 12 + m) n m refl h in
    omega arith

pub first_day-is : (n m : ℕ) (y : ℤ) → y ≡ pos n -ℤ pos 400 → m < 12 → days_from_civil y (suc m) 1 ≡ first_day (pos (n * 12 + m) -ℤ pos 4800)
first_day-is n m y e h =
    let first = first_day-at (n * 12 + m) in
    let counted = first-counted n m y e h in
    omega (arith, signed_arith, days_from_civil-day_count y (suc m) 1, first)

-- a date lies in the month of its number
numbered_year : (y : ℤ) → neg_ℤ (pos 400) ≤ℤ y → (n : ℕ) × (y ≡ pos n -ℤ pos 400)
numbered_year y h = let n = above y (neg_ℤ (pos 400)) h in (n.0, let is = n.1 in omega (arith, ints))

month_of-number : (n m d : ℕ) (y day : ℤ) → y ≡ pos n -ℤ pos 400 → m < 12 → 1 ≤ d → d ≤ days_in_month y (suc m) → days_from_civil y (suc m) d ≡ day
    → month_of_day day ≡ pos (n * 12 + m) -ℤ pos 4800
month_of-number n m d y day e h low high is =
    let first = first-counted n m y e h in
    let days = day_count-day y (suc m) d 1 low (omega arith) in
    let length = month-is n m y e h in
    let next = days_to-next (n * 12 + m) n m refl h in
    let number : day ≡ pos (days_to (n * 12 + m) + (d - 1)) -ℤ pos 865_625 = omega (arith, signed_arith, days_from_civil-day_count y (suc m) d, is) in
    let from = first_day-at (n * 12 + m) in
    let more : (pos (n * 12 + m) -ℤ pos 4800) +ℤ pos 1 ≡ pos (suc (n * 12 + m)) -ℤ pos 4800 = omega (arith, ints) in
    let until = ap first_day more ∙ first_day-at (suc (n * 12 + m)) in
    month-unique day (pos (n * 12 + m) -ℤ pos 4800) (omega (arith, ints)) (omega (arith, ints)) (omega (arith, ints)) (omega (arith, ints))

no_years : days_before_year 0 ≡ 0
unfolding days_before_year
no_years = refl

is_late : (date : Date) (day : ℤ) → epoch_day date ≡ day → neg_ℤ (pos 865_625) ≤ℤ day → neg_ℤ (pos 400) ≤ℤ date.year
is_late date day is low =
    by_lt_z date.year (neg_ℤ (pos 400))
    (λ less.
    let civil : IsCivilDate date.year date.month date.day = (date.year_in, date.month_in, date.day_in) in
    let earlier = day_count-lt_year date.year date.month date.day (neg_ℤ (pos 400)) 1 1 civil (omega arith) less in
    let first = first_of_year-is 0 (neg_ℤ (pos 400)) refl in
    let none = no_years in
    absurd (omega (arith, signed_arith, days_from_civil-day_count date.year date.month date.day, is)))
    (λ least. least)

pub month_of-date : (date : Date) (day : ℤ) → epoch_day date ≡ day → neg_ℤ (pos 865_625) ≤ℤ day → month_of_day day ≡ (date.year *ℤ pos 12) +ℤ pos (date.month - 1)
month_of-date date day is low =
    let n = numbered_year date.year (is_late date day is low) in
    let year = n.1 in
    let bounds = date.month_in in
    let days = date.day_in in
    let month : suc (date.month - 1) ≡ date.month = omega arith in
    let last = subst (λ (k : ℕ). date.day ≤ days_in_month date.year k) (sym month) days.1 in
    let civil = subst (λ (k : ℕ). days_from_civil date.year k date.day ≡ day) (sym month) is in
    month_of-number n.0 (date.month - 1) date.day date.year day year (omega arith) days.0 last civil ∙ omega (arith, ints)

-- the first day of a month is that of its date
least_year : (year month : ℤ) (m : ℕ) → m < 12 → neg_ℤ (pos 4800) ≤ℤ month → (year *ℤ pos 12) +ℤ pos m ≡ month → neg_ℤ (pos 400) ≤ℤ year
least_year year month m h low is = omega (arith, ints)

same_month : (n m : ℕ) (year month : ℤ) → year ≡ pos n -ℤ pos 400 → (year *ℤ pos 12) +ℤ pos m ≡ month → pos (n * 12 + m) -ℤ pos 4800 ≡ month
same_month n m year month e is = omega (arith, ints)

pub first_day-date : (date : Date) (month : ℤ) → neg_ℤ (pos 4800) ≤ℤ month → (date.year *ℤ pos 12) +ℤ pos (date.month - 1) ≡ month → date.day ≡ 1 → epoch_day date ≡ first_day month
first_day-date date month low is first =
    let bounds = date.month_in in
    let below : date.month - 1 < 12 = omega arith in
    let named : date.month ≡ suc (date.month - 1) = omega arith in
    let n = numbered_year date.year (least_year date.year month (date.month - 1) below low is) in
    ap (days_from_civil date.year date.month) first ∙ ap (λ (k : ℕ). days_from_civil date.year k 1) named ∙ first_day-is n.0 (date.month - 1) date.year n.1 below
    ∙ ap first_day (same_month n.0 (date.month - 1) date.year month n.1 is)
