-- Each day number names one date.
use Rattle.std.proofs.Common.{◌≡◌, ℕ, zero, suc, ◌+◌, ◌-◌, ◌*◌, ◌/◌, ◌<◌, ◌≤◌, ◌⊎◌, inl, inr, true, ◌&&◌, refl, sym, ◌∙◌, ap, arith, ℤ, pos, neg_ℤ, ◌+ℤ◌, ◌-ℤ◌, ◌≤ℤ◌}
use Rattle.std.specs.Prelude.{nat_le, unsigned_abs, sum}
use Rattle.std.proofs.lemmas.Bool.{le-leb, lt-leb, leb-true}
use Rattle.std.proofs.lemmas.Int.{ints}
use Rattle.std.proofs.lemmas.List.{take_all}
use Rattle.date_spec.specs.Calendar.{year_days, month_days, month_lengths, Date, is_date, days_before_year, days_before_month, days_before, day_number, last_begun, year_after, month_after, date_after, date_of}
use Rattle.date_spec.proofs.ShapeLemmas.{and_first, and_second, and_both}

pub cases_le : (m n : ℕ) → (m ≤ n) ⊎ (n < m)
cases_le m n = grind arith

-- the last that has begun is the one that has begun and whose next has not
last_begun-is : (begin : ℕ → ℕ) → ((a b : ℕ) → a ≤ b → begin a ≤ begin b) → (n y k : ℕ) → (1 ≤ y → begin y ≤ n) → n < begin (suc y) → y ≤ k → last_begun begin n k ≡ y
unfolding last_begun
last_begun-is begin mono n y zero low high h = omega arith
last_begun-is begin mono n y (suc k) low high h =
    elim (cases_le (begin (suc k)) n) [
      | inl begun ↦
          elim (cases_le (suc k) y) [
            | inl le ↦ let same : y ≡ suc k = omega arith in rw (le-leb (begin (suc k)) n begun) (sym same)
            | inr gt ↦ absurd (omega (arith, mono (suc y) (suc k) (omega arith)))
          ]
      | inr ahead ↦
          elim (cases_le y k) [
            | inl le ↦ rw (lt-leb (begin (suc k)) n ahead) (last_begun-is begin mono n y k low high le)
            | inr gt ↦ let same : y ≡ suc k = omega arith in absurd (omega (arith, rw same at (low (omega arith))))
          ]
    ]

pub year_days-bounds : (y : ℕ) → (365 ≤ year_days y) × (year_days y ≤ 366)
year_days-bounds y = grind arith

pub days_before_year-next : (y : ℕ) → days_before_year (suc y) ≡ days_before_year y + year_days y
unfolding days_before_year
days_before_year-next y = refl

days_before_year-more : (y k : ℕ) → days_before_year y ≤ days_before_year (k + y)
days_before_year-more y zero = let same : 0 + y ≡ y = omega arith in rw same (omega arith)
days_before_year-more y (suc k) =
    let next : suc k + y ≡ suc (k + y) = omega arith in
    rw next (omega (arith, days_before_year-next (k + y), days_before_year-more y k))

days_before_year-mono : (a b : ℕ) → a ≤ b → days_before_year a ≤ days_before_year b
days_before_year-mono a b h = let same : b - a + a ≡ b = omega arith in rw same at (days_before_year-more a (b - a))

-- no year has fewer than 365 days
pub days_before_year-least : (y : ℕ) → 365 * y ≤ days_before_year y
unfolding days_before_year
days_before_year-least zero = omega arith
days_before_year-least (suc y) = omega (arith, days_before_year-least y, year_days-bounds y)

abbrev pub month_begin : ℕ → ℕ → ℕ
month_begin y m = days_before_month y (suc m)

-- the days before each month, and all of the year
pub days_before_month-next : (y m : ℕ) → m < 12 → days_before_month y (suc (suc m)) ≡ days_before_month y (suc m) + month_days y (suc m)
unfolding days_before_month
days_before_month-next y zero h = grind arith
days_before_month-next y (suc zero) h = grind arith
days_before_month-next y (suc (suc zero)) h = grind arith
days_before_month-next y (suc (suc (suc zero))) h = grind arith
days_before_month-next y (suc (suc (suc (suc zero)))) h = grind arith
days_before_month-next y (suc (suc (suc (suc (suc zero))))) h = grind arith
days_before_month-next y (suc (suc (suc (suc (suc (suc zero)))))) h = grind arith
days_before_month-next y (suc (suc (suc (suc (suc (suc (suc zero))))))) h = grind arith
days_before_month-next y (suc (suc (suc (suc (suc (suc (suc (suc zero)))))))) h = grind arith
days_before_month-next y (suc (suc (suc (suc (suc (suc (suc (suc (suc zero))))))))) h = grind arith
days_before_month-next y (suc (suc (suc (suc (suc (suc (suc (suc (suc (suc zero)))))))))) h = grind arith
days_before_month-next y (suc (suc (suc (suc (suc (suc (suc (suc (suc (suc (suc zero))))))))))) h = grind arith
days_before_month-next y (suc (suc (suc (suc (suc (suc (suc (suc (suc (suc (suc (suc m)))))))))))) h = absurd (omega arith)

month_begin-end : (y m : ℕ) → 12 ≤ m → month_begin y m ≡ month_begin y 12
unfolding days_before_month
month_begin-end y m h = let same : suc m - 1 ≡ m = omega arith in rw same (ap sum (take_all m (month_lengths y) h))

month_begin-more : (y m k : ℕ) → month_begin y m ≤ month_begin y (k + m)
month_begin-more y m zero = let same : 0 + m ≡ m = omega arith in rw same (omega arith)
month_begin-more y m (suc k) =
    let next : suc k + m ≡ suc (k + m) = omega arith in
    let before = month_begin-more y m k in
    rw next (elim (cases_le 12 (k + m)) [
      | inl late ↦ omega (arith, before, month_begin-end y (k + m) late, month_begin-end y (suc (k + m)) (omega arith))
      | inr early ↦ omega (arith, before, days_before_month-next y (k + m) early)
    ])

first_month : (y : ℕ) → days_before_month y 0 ≤ month_begin y 0
unfolding days_before_month
first_month y = omega arith

days_before_month-mono : (y a b : ℕ) → a ≤ b → days_before_month y a ≤ days_before_month y b
days_before_month-mono y zero zero h = omega arith
days_before_month-mono y zero (suc b) h = let same : b + 0 ≡ b = omega arith in omega (arith, first_month y, rw same at (month_begin-more y 0 b))
days_before_month-mono y (suc a) zero h = absurd (omega arith)
days_before_month-mono y (suc a) (suc b) h = let same : b - a + a ≡ b = omega arith in rw same at (month_begin-more y a (b - a))

-- a month has days of its year, and the year all of its months
month-within : (y m : ℕ) → m < 12 → month_begin y (suc m) ≤ month_begin y 12
month-within y m h = let same : 12 - suc m + suc m ≡ 12 = omega arith in rw same at (month_begin-more y (suc m) (12 - suc m))

pub year-whole : (y : ℕ) → month_begin y 12 ≡ year_days y
unfolding days_before_month
year-whole y = grind arith

-- the facts of a date, as numbers
pub record IsCounted (d : Date) : Type 0 where
  pub low : 1 ≤ d.month
  pub high : d.month ≤ 12
  pub first : 1 ≤ d.day
  pub last : d.day ≤ month_days d.year d.month

pub counted : (d : Date) → is_date d ≡ true → IsCounted d
counted d h =
    let three = and_first (nat_le 1 d.month && nat_le d.month 12 && nat_le 1 d.day) _ h in
    let two = and_first (nat_le 1 d.month && nat_le d.month 12) _ three in
    record {
      low = leb-true 1 d.month (and_first (nat_le 1 d.month) _ two);
      high = leb-true d.month 12 (and_second (nat_le 1 d.month) _ two);
      first = leb-true 1 d.day (and_second (nat_le 1 d.month && nat_le d.month 12) _ three);
      last = leb-true d.day _ (and_second (nat_le 1 d.month && nat_le d.month 12 && nat_le 1 d.day) _ h);
    }

-- no month has more than 31 days
pub month_days-most : (y m : ℕ) → month_days y m ≤ 31
month_days-most y zero = omega arith
month_days-most y (suc zero) = omega arith
month_days-most y (suc (suc zero)) = grind arith
month_days-most y (suc (suc (suc zero))) = omega arith
month_days-most y (suc (suc (suc (suc zero)))) = omega arith
month_days-most y (suc (suc (suc (suc (suc zero))))) = omega arith
month_days-most y (suc (suc (suc (suc (suc (suc zero)))))) = omega arith
month_days-most y (suc (suc (suc (suc (suc (suc (suc zero))))))) = omega arith
month_days-most y (suc (suc (suc (suc (suc (suc (suc (suc zero)))))))) = omega arith
month_days-most y (suc (suc (suc (suc (suc (suc (suc (suc (suc zero))))))))) = omega arith
month_days-most y (suc (suc (suc (suc (suc (suc (suc (suc (suc (suc zero)))))))))) = omega arith
month_days-most y (suc (suc (suc (suc (suc (suc (suc (suc (suc (suc (suc zero))))))))))) = omega arith
month_days-most y (suc (suc (suc (suc (suc (suc (suc (suc (suc (suc (suc (suc m)))))))))))) = grind arith

-- the month of a place in the year
month_after-is : (y m rest : ℕ) → 1 ≤ m → m ≤ 12 → days_before_month y m ≤ rest → rest < days_before_month y m + month_days y m → month_after y rest ≡ m
month_after-is y zero rest low high begun ahead = absurd (omega arith)
month_after-is y (suc m) rest low high begun ahead =
    last_begun-is (days_before_month y) (days_before_month-mono y) rest (suc m) 12 (λ _. begun) (omega (arith, ahead, days_before_month-next y m (omega arith))) high

year_after-is : (y n : ℕ) → days_before_year y ≤ n → n < days_before_year y + year_days y → year_after n ≡ y
year_after-is y n begun ahead =
    last_begun-is days_before_year days_before_year-mono n y (n / 365) (λ _. begun) (omega (arith, ahead, days_before_year-next y)) (omega (arith, begun, days_before_year-least y))

of_year : (y m d : ℕ) → 1 ≤ m → m ≤ 12 → 1 ≤ d → d ≤ month_days y m → days_before_month y m + (d - 1) < year_days y
of_year y zero d low high first last = absurd (omega arith)
of_year y (suc m) d low high first last =
    omega (arith, last, days_before_month-next y m (omega arith), month-within y m (omega arith), year-whole y)

-- the date that has as many days before it as a date is that date
pub date_after-days_before : (d : Date) → is_date d ≡ true → date_after (days_before d) ≡ d
unfolding date_after
date_after-days_before d h =
    let c = counted d h in
    let within = of_year d.year d.month d.day c.low c.high c.first c.last in
    let year : year_after (days_before d) ≡ d.year = year_after-is d.year (days_before d) (omega arith) (omega (arith, within)) in
    let rest : days_before d - days_before_year d.year ≡ days_before_month d.year d.month + (d.day - 1) = omega arith in
    let month : month_after d.year (days_before_month d.year d.month + (d.day - 1)) ≡ d.month =
    month_after-is d.year d.month (days_before_month d.year d.month + (d.day - 1)) c.low c.high (omega arith) (omega (arith, c.first, c.last)) in
    let day : days_before_month d.year d.month + (d.day - 1) - days_before_month d.year d.month + 1 ≡ d.day = omega (arith, c.first) in
    rw (year, rest, month, day) refl

-- the date with the number of a date is that date
pub date_of-day_number : (d : Date) → is_date d ≡ true → date_of (day_number d) ≡ d
date_of-day_number d h =
    let back : unsigned_abs (day_number d +ℤ pos 719_528) ≡ days_before d = omega (arith, ints) in
    rw back (date_after-days_before d h)

-- the last that has begun has begun, where the first has, and the next one has not
last_begun-low : (begin : ℕ → ℕ) (n k : ℕ) → begin 0 ≤ n → begin (last_begun begin n k) ≤ n
unfolding last_begun
last_begun-low begin n zero h = h
last_begun-low begin n (suc k) h =
    elim (cases_le (begin (suc k)) n) [
      | inl begun ↦ rw (le-leb (begin (suc k)) n begun) begun
      | inr ahead ↦ rw (lt-leb (begin (suc k)) n ahead) (last_begun-low begin n k h)
    ]

last_begun-high : (begin : ℕ → ℕ) (n k : ℕ) → n < begin (suc k) → n < begin (suc (last_begun begin n k))
unfolding last_begun
last_begun-high begin n zero h = h
last_begun-high begin n (suc k) h =
    elim (cases_le (begin (suc k)) n) [
      | inl begun ↦ rw (le-leb (begin (suc k)) n begun) h
      | inr ahead ↦ rw (lt-leb (begin (suc k)) n ahead) (last_begun-high begin n k ahead)
    ]

last_begun-first : (begin : ℕ → ℕ) (n k : ℕ) → 1 ≤ k → begin 1 ≤ n → 1 ≤ last_begun begin n k
unfolding last_begun
last_begun-first begin n zero some h = absurd (omega arith)
last_begun-first begin n (suc zero) some h = rw (le-leb (begin 1) n h) (omega arith)
last_begun-first begin n (suc (suc k)) some h =
    elim (cases_le (begin (suc (suc k))) n) [
      | inl begun ↦ rw (le-leb (begin (suc (suc k))) n begun) (omega arith)
      | inr ahead ↦ rw (lt-leb (begin (suc (suc k))) n ahead) (last_begun-first begin n (suc k) (omega arith) h)
    ]

last_begun-most : (begin : ℕ → ℕ) (n k : ℕ) → last_begun begin n k ≤ k
unfolding last_begun
last_begun-most begin n zero = omega arith
last_begun-most begin n (suc k) =
    elim (cases_le (begin (suc k)) n) [
      | inl begun ↦ rw (le-leb (begin (suc k)) n begun) (omega arith)
      | inr ahead ↦ let most = last_begun-most begin n k in rw (lt-leb (begin (suc k)) n ahead) (omega arith)
    ]

days_before_year-none : days_before_year 0 ≡ 0
unfolding days_before_year
days_before_year-none = refl

days_before_month-none : (y : ℕ) → (days_before_month y 0 ≡ 0) × (days_before_month y 1 ≡ 0)
unfolding days_before_month
days_before_month-none y = (refl, refl)

year_after-low : (n : ℕ) → days_before_year (year_after n) ≤ n
year_after-low n = last_begun-low days_before_year n (n / 365) (omega (arith, days_before_year-none))

year_after-high : (n : ℕ) → n < days_before_year (suc (year_after n))
year_after-high n = last_begun-high days_before_year n (n / 365) (omega (arith, days_before_year-least (suc (n / 365))))

month-next : (y m : ℕ) → 1 ≤ m → m ≤ 12 → days_before_month y (suc m) ≡ days_before_month y m + month_days y m
month-next y zero low high = absurd (omega arith)
month-next y (suc m) low high = days_before_month-next y m (omega arith)

-- the date of a day in a month of a year
date_of_parts : (n y m rest : ℕ) → days_before_year y + rest ≡ n → 1 ≤ m → m ≤ 12 → days_before_month y m ≤ rest → rest < days_before_month y (suc m) → (is_date (record { year = y; month = m; day = rest - days_before_month y m + 1 }) ≡ true) × (days_before (record { year = y; month = m; day = rest - days_before_month y m + 1 }) ≡ n)
date_of_parts n y m rest whole low high begun ahead =
    let next = month-next y m low high in
    (and_both _ _ (and_both _ _ (and_both _ _ (le-leb 1 m low) (le-leb m 12 high)) (le-leb 1 (rest - days_before_month y m + 1) (omega arith))) (le-leb (rest - days_before_month y m + 1) (month_days y m) (omega arith)), omega arith)

-- the date that has so many days before it is one of the calendar, and has them
pub date_after-is : (n : ℕ) → (is_date (date_after n) ≡ true) × (days_before (date_after n) ≡ n)
unfolding date_after
date_after-is n =
    let low = year_after-low n in
    let within : n - days_before_year (year_after n) < days_before_month (year_after n) 13 =
    omega (arith, year_after-high n, days_before_year-next (year_after n), year-whole (year_after n)) in
    let none = days_before_month-none (year_after n) in
    date_of_parts n (year_after n) (month_after (year_after n) (n - days_before_year (year_after n))) (n - days_before_year (year_after n)) (omega arith)
    (last_begun-first (days_before_month (year_after n)) (n - days_before_year (year_after n)) 12 (omega arith) (omega arith))
    (last_begun-most (days_before_month (year_after n)) (n - days_before_year (year_after n)) 12)
    (last_begun-low (days_before_month (year_after n)) (n - days_before_year (year_after n)) 12 (omega arith))
    (last_begun-high (days_before_month (year_after n)) (n - days_before_year (year_after n)) 12 within)

-- a number names one date, from the first of the year 0000 on
pub date_of-is_date : (z : ℤ) → is_date (date_of z) ≡ true
date_of-is_date z = (date_after-is (unsigned_abs (z +ℤ pos 719_528))).0

pub day_number-date_of : (z : ℤ) → neg_ℤ (pos 719_528) ≤ℤ z → day_number (date_of z) ≡ z
day_number-date_of z h =
    let same : pos (unsigned_abs (z +ℤ pos 719_528)) -ℤ pos 719_528 ≡ z = omega (arith, ints) in
    ap (λ n. pos n -ℤ pos 719_528) (date_after-is (unsigned_abs (z +ℤ pos 719_528))).1 ∙ same

days_before_year-all : days_before_year 10000 ≡ 3_652_425
unfolding days_before_year
days_before_year-all = refl

after_year : (n : ℕ) → (date_after n).year ≡ year_after n
unfolding date_after
after_year n = refl

-- the years up to 9999
pub date_of-year : (z : ℤ) → neg_ℤ (pos 719_528) ≤ℤ z → z ≤ℤ pos 2_932_896 → (date_of z).year ≤ 9999
date_of-year z low high =
    let n : unsigned_abs (z +ℤ pos 719_528) < 3_652_425 = omega (arith, ints) in
    let year = after_year (unsigned_abs (z +ℤ pos 719_528)) in
    elim (cases_le (year_after (unsigned_abs (z +ℤ pos 719_528))) 9999) [
      | inl le ↦ omega arith
      | inr gt ↦ absurd (omega (arith, days_before_year-all, days_before_year-mono 10000 (year_after (unsigned_abs (z +ℤ pos 719_528))) gt, year_after-low (unsigned_abs (z +ℤ pos 719_528))))
    ]
