-- The months follow one another, and each day lies in the month of its number.
use Rattle.std.proofs.Common.{◌≡◌, ℕ, zero, suc, ◌+◌, ◌-◌, ◌*◌, ◌/◌, ◌%◌, ◌<◌, ◌≤◌, inl, inr, refl, ◌∙◌, ap, arith, pos, ◌+ℤ◌, ◌-ℤ◌, unsigned_abs}
use Rattle.std.proofs.lemmas.Bool.{le-leb, lt-leb}
use Rattle.std.proofs.lemmas.Int.{ints}
use Rattle.date_spec.specs.Calendar.{year_days, month_days, days_before_year, days_before_month, days_before, last_begun, year_after, month_after, date_after}
use Rattle.date_spec.specs.Periods.{month_of_day, first_day}
use Rattle.date_spec.proofs.DayLemmas.{cases_le, days_before_year-next, days_before_year-least, days_before_month-next, year-whole}

-- the days before a month, where 0000-01 is month 0
unfoldable pub days_to : ℕ → ℕ
days_to n = days_before (record { year = n / 12; month = n % 12 + 1; day = 1 })

pub first_month-none : (y : ℕ) → days_before_month y 1 ≡ 0
unfolding days_before_month
first_month-none y = refl

month_days-least : (y m : ℕ) → m < 12 → 28 ≤ month_days y (suc m)
month_days-least y zero h = grind arith
month_days-least y (suc zero) h = grind arith
month_days-least y (suc (suc zero)) h = grind arith
month_days-least y (suc (suc (suc zero))) h = grind arith
month_days-least y (suc (suc (suc (suc zero)))) h = grind arith
month_days-least y (suc (suc (suc (suc (suc zero))))) h = grind arith
month_days-least y (suc (suc (suc (suc (suc (suc zero)))))) h = grind arith
month_days-least y (suc (suc (suc (suc (suc (suc (suc zero))))))) h = grind arith
month_days-least y (suc (suc (suc (suc (suc (suc (suc (suc zero)))))))) h = grind arith
month_days-least y (suc (suc (suc (suc (suc (suc (suc (suc (suc zero))))))))) h = grind arith
month_days-least y (suc (suc (suc (suc (suc (suc (suc (suc (suc (suc zero)))))))))) h = grind arith
month_days-least y (suc (suc (suc (suc (suc (suc (suc (suc (suc (suc (suc zero))))))))))) h = grind arith
month_days-least y (suc (suc (suc (suc (suc (suc (suc (suc (suc (suc (suc (suc m)))))))))))) h = absurd (omega arith)

-- the days before the month m of the year y, January being 0
pub days_to-at : (n y m : ℕ) → n ≡ y * 12 + m → m < 12 → days_to n ≡ days_before_year y + days_before_month y (suc m)
unfolding days_to
days_to-at n y m e h =
    let year : n / 12 ≡ y = omega arith in
    let month : n % 12 + 1 ≡ suc m = omega arith in
    let none : days_before_year y + days_before_month y (suc m) + (1 - 1) ≡ days_before_year y + days_before_month y (suc m) = omega arith in
    ap (λ (k : ℕ). days_before_year k + days_before_month k (n % 12 + 1) + (1 - 1)) year
    ∙ ap (λ (k : ℕ). days_before_year y + days_before_month y k + (1 - 1)) month ∙ none

pub days_to-next : (n y m : ℕ) → n ≡ y * 12 + m → m < 12 → days_to (suc n) ≡ days_to n + month_days y (suc m)
days_to-next n y m e h =
    let here = days_to-at n y m e h in
    let length = days_before_month-next y m h in
    elim (cases_le m 10) [
      | inl early ↦ let there = days_to-at (suc n) y (suc m) (omega arith) (omega arith) in omega arith
      | inr late ↦
          let there = days_to-at (suc n) (suc y) 0 (omega arith) (omega arith) in
          let eleven : m ≡ 11 = omega arith in
          let whole : days_before_month y (suc (suc m)) ≡ year_days y = ap (λ (k : ℕ). days_before_month y (suc (suc k))) eleven ∙ year-whole y in
          let next = days_before_year-next y in
          let none = first_month-none (suc y) in
          omega arith
    ]

days_to-less : (n : ℕ) → days_to n < days_to (suc n)
days_to-less n =
    let least = month_days-least (n / 12) (n % 12) (omega arith) in
    let next = days_to-next n (n / 12) (n % 12) (omega arith) (omega arith) in
    omega arith

days_to-more : (n k : ℕ) → days_to n < days_to (suc (k + n))
days_to-more n zero = let same : 0 + n ≡ n = omega arith in rw same (days_to-less n)
days_to-more n (suc k) =
    let same : suc k + n ≡ suc (k + n) = omega arith in
    let before = days_to-more n k in
    let less = days_to-less (suc (k + n)) in
    rw same (omega arith)

pub days_to-rising : (m n : ℕ) → m < n → days_to m < days_to n
days_to-rising m n h = let same : suc ((n - m - 1) + m) ≡ n = omega arith in rw same at (days_to-more m (n - m - 1))

-- the last that has begun has begun, and the next has not
has_begun : (begin : ℕ → ℕ) (n k : ℕ) → 1 ≤ last_begun begin n k → begin (last_begun begin n k) ≤ n
unfolding last_begun
has_begun begin n zero h = absurd (omega arith)
has_begun begin n (suc k) h =
    elim (cases_le (begin (suc k)) n) [
      | inl le ↦ rw (le-leb (begin (suc k)) n le) le
      | inr gt ↦ rw (lt-leb (begin (suc k)) n gt) (has_begun begin n k (rw (lt-leb (begin (suc k)) n gt) at h))
    ]

is_ahead : (begin : ℕ → ℕ) (n k : ℕ) → n < begin (suc k) → n < begin (suc (last_begun begin n k))
unfolding last_begun
is_ahead begin n zero h = h
is_ahead begin n (suc k) h =
    elim (cases_le (begin (suc k)) n) [
      | inl le ↦ rw (le-leb (begin (suc k)) n le) h
      | inr gt ↦ rw (lt-leb (begin (suc k)) n gt) (is_ahead begin n k gt)
    ]

one_has_begun : (begin : ℕ → ℕ) (n k : ℕ) → begin 1 ≤ n → 1 ≤ last_begun begin n (suc k)
unfolding last_begun
one_has_begun begin n zero h = rw (le-leb (begin 1) n h) (omega arith)
one_has_begun begin n (suc k) h =
    elim (cases_le (begin (suc (suc k))) n) [
      | inl le ↦ rw (le-leb (begin (suc (suc k))) n le) (omega arith)
      | inr gt ↦ rw (lt-leb (begin (suc (suc k))) n gt) (one_has_begun begin n k h)
    ]

last_begun-most : (begin : ℕ → ℕ) (n k : ℕ) → last_begun begin n k ≤ k
unfolding last_begun
last_begun-most begin n zero = omega arith
last_begun-most begin n (suc k) =
    elim (cases_le (begin (suc k)) n) [
      | inl le ↦ rw (le-leb (begin (suc k)) n le) (omega arith)
      | inr gt ↦ let most = last_begun-most begin n k in rw (lt-leb (begin (suc k)) n gt) (omega arith)
    ]

-- the year of a day has begun, and the next has not
first_year-none : days_before_year 0 ≡ 0
unfolding days_before_year
first_year-none = refl

year-begun : (n y : ℕ) → y ≡ year_after n → days_before_year y ≤ n
year-begun n zero e = let none = first_year-none in omega arith
year-begun n (suc y) e = rw e (has_begun days_before_year n (n / 365) (rw (← e) (omega arith)))

year-ahead : (n : ℕ) → n < days_before_year (suc (year_after n))
year-ahead n = let least = days_before_year-least (suc (n / 365)) in is_ahead days_before_year n (n / 365) (omega arith)

-- a day lies in the month of its date
pub record IsOfMonth (n y m : ℕ) : Type 0 where
  pub from : days_to (y * 12 + (m - 1)) ≤ n
  pub until : n < days_to (suc (y * 12 + (m - 1)))

of_month : (n y m : ℕ) → y ≡ year_after n → m ≡ month_after y (n - days_before_year y) → IsOfMonth n y m
of_month n y m e f =
    let begun : days_before_year y ≤ n = year-begun n y e in
    let ahead : n < days_before_year (suc y) = rw e (year-ahead n) in
    let next_year = days_before_year-next y in
    let whole = year-whole y in
    let none = first_month-none y in
    let one : 1 ≤ m = rw f (one_has_begun (days_before_month y) (n - days_before_year y) 11 (omega arith)) in
    let twelve : m ≤ 12 = rw f (last_begun-most (days_before_month y) (n - days_before_year y) 12) in
    let low : days_before_month y m ≤ n - days_before_year y = rw f (has_begun (days_before_month y) (n - days_before_year y) 12 (rw (← f) one)) in
    let high : n - days_before_year y < days_before_month y (suc m) = rw f (is_ahead (days_before_month y) (n - days_before_year y) 12 (omega arith)) in
    let month : suc (m - 1) ≡ m = omega arith in
    let same = ap (days_before_month y) month in
    let same_next = ap (λ (k : ℕ). days_before_month y (suc k)) month in
    let here = days_to-at (y * 12 + (m - 1)) y (m - 1) refl (omega arith) in
    let next = days_to-next (y * 12 + (m - 1)) y (m - 1) refl (omega arith) in
    let length = days_before_month-next y (m - 1) (omega arith) in
    record { from = omega arith; until = omega arith }

-- the number of the month that a day lies in, as `date_after` tells it
unfoldable pub month_index : ℕ → ℕ
month_index n = (date_after n).year * 12 + ((date_after n).month - 1)

pub in_its_month : (n : ℕ) → (days_to (month_index n) ≤ n) × (n < days_to (suc (month_index n)))
unfolding date_after month_index
in_its_month n =
    let within = of_month n (year_after n) (month_after (year_after n) (n - days_before_year (year_after n))) refl refl in
    (within.from, within.until)

-- the same of numbers that may be negative: of months from -4,800 on, and of days from -865,625 on
pub month_of_day-at : (n : ℕ) → month_of_day (pos n -ℤ pos 865_625) ≡ pos (month_index n) -ℤ pos 4800
unfolding month_of_day month_index
month_of_day-at n =
    let back : unsigned_abs (((pos n -ℤ pos 865_625) +ℤ pos 146_097) +ℤ pos 719_528) ≡ n = omega (arith, ints) in
    ap (λ (k : ℕ). pos ((date_after k).year * 12 + ((date_after k).month - 1)) -ℤ pos 4800) back

twice_less : (n : ℕ) → (pos n -ℤ pos 719_528) -ℤ pos 146_097 ≡ pos n -ℤ pos 865_625
twice_less n = omega (arith, ints)

pub first_day-at : (n : ℕ) → first_day (pos n -ℤ pos 4800) ≡ pos (days_to n) -ℤ pos 865_625
unfolding first_day days_to
first_day-at n =
    let back : unsigned_abs ((pos n -ℤ pos 4800) +ℤ pos 4800) ≡ n = omega (arith, ints) in
    ap (λ (k : ℕ). (pos (days_to k) -ℤ pos 719_528) -ℤ pos 146_097) back ∙ twice_less (days_to n)
