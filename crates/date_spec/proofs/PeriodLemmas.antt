-- Periods follow one another, and each local time lies in the one of its number.
use Rattle.std.proofs.Common.{◌≡◌, ℕ, zero, suc, ◌+◌, ◌*◌, ◌<◌, ◌≤◌, refl, sym, ◌∙◌, ap, subst, arith, ℤ, pos, negsuc, neg_ℤ, ◌+ℤ◌, ◌-ℤ◌, ◌*ℤ◌, ◌≤ℤ◌, ◌<ℤ◌}
use Rattle.std.specs.Int.{int_div_euclid}
use Rattle.std.proofs.lemmas.Int.{ints, by_lt_z}
use Rattle.std.proofs.Math.IntN.{suc_ℤ, suc_ℤ-*ℤ, +ℤ-suc_ℤ}
use Rattle.date_spec.specs.declared.period.Period.{Period}
use Rattle.date_spec.specs.declared.period.Period.TheVariants.{Fixed, Week, Month, Quarter, Year}
use Rattle.date_spec.specs.Periods.{IsPeriod, day_at, midnight, month_of_day, first_day, number_of, start_of}
use Rattle.date_spec.proofs.MonthLemmas.{days_to, days_to-rising, month_index, in_its_month, month_of_day-at, first_day-at}

-- a number is another and a difference
pub above : (z low : ℤ) → low ≤ℤ z → (n : ℕ) × (z ≡ pos n +ℤ low)
above z low h = by_difference (z -ℤ low) refl
  where
    by_difference : (d : ℤ) → z -ℤ low ≡ d → (n : ℕ) × (z ≡ pos n +ℤ low)
    by_difference (pos n) e = (n, omega (arith, ints))
    by_difference (negsuc n) e = absurd (omega (arith, ints))

pub most_most : (a b c : ℤ) → a ≤ℤ b → b ≤ℤ c → a ≤ℤ c
most_most a b c h k = omega (arith, ints)

pub most_least : (a b : ℤ) → a ≤ℤ b → b ≤ℤ a → a ≡ b
most_least a b h k = omega (arith, ints)

pub most_less : (a b c : ℤ) → a ≤ℤ b → b <ℤ c → a <ℤ c
most_less a b c h k = omega (arith, ints)

pub less_most : (a b c : ℤ) → a <ℤ b → b ≤ℤ c → a <ℤ c
less_most a b c h k = omega (arith, ints)

pub less_itself : (a : ℤ) → a <ℤ a → ⊥
less_itself a h = omega (arith, ints)

pub less-most : (a b : ℤ) → a <ℤ b → a ≤ℤ b
less-most a b h = omega (arith, ints)

pub less-next : (a b : ℤ) → a <ℤ b → (a +ℤ pos 1) ≤ℤ b
less-next a b h = omega (arith, ints)

pub next-less : (a : ℤ) → a <ℤ (a +ℤ pos 1)
next-less a = omega (arith, ints)

pub same-most : (a b : ℤ) → a ≡ b → a ≤ℤ b
same-most a b e = subst (λ (c : ℤ). a ≤ℤ c) e (omega (arith, ints))

-- the quotient rounds down
pub quotient-low : (z : ℤ) (d : ℕ) → 0 < d → (int_div_euclid z (pos d) *ℤ pos d) ≤ℤ z
quotient-low (pos a) d h = omega (arith, ints)
quotient-low (negsuc a) d h = omega (arith, ints)

pub quotient-high : (z : ℤ) (d : ℕ) → 0 < d → z <ℤ ((int_div_euclid z (pos d) *ℤ pos d) +ℤ pos d)
quotient-high (pos a) d h = omega (arith, ints)
quotient-high (negsuc a) d h = omega (arith, ints)

-- so many times more
pub times-more : (t : ℤ) (n d : ℕ) → (t +ℤ pos n) *ℤ pos d ≡ (t *ℤ pos d) +ℤ pos (n * d)
times-more t zero d = ap (λ m. m *ℤ pos d) (let e : t +ℤ pos zero ≡ t = omega (arith, ints) in e) ∙ (let e : t *ℤ pos d ≡ (t *ℤ pos d) +ℤ pos (0 * d) = omega (arith, ints) in e)
times-more t (suc n) d =
    let more : t +ℤ pos (suc n) ≡ suc_ℤ (t +ℤ pos n) = +ℤ-suc_ℤ t (pos n) in
    let product : suc n * d ≡ n * d + d = omega arith in
    let step = suc_ℤ-*ℤ (t +ℤ pos n) (pos d) in
    let before = times-more t n d in
    ap (λ m. m *ℤ pos d) more ∙ omega (arith, ints)

pub times-next : (t : ℤ) (d : ℕ) → (t +ℤ pos 1) *ℤ pos d ≡ (t *ℤ pos d) +ℤ pos d
times-next t d = times-more t 1 d ∙ (let e : (t *ℤ pos d) +ℤ pos (1 * d) ≡ (t *ℤ pos d) +ℤ pos d = omega (arith, ints) in e)

pub times-rising : (s t : ℤ) (d : ℕ) → 0 < d → s <ℤ t → (s *ℤ pos d) <ℤ (t *ℤ pos d)
times-rising s t d positive h =
    let n = above t (s +ℤ pos 1) (less-next s t h) in
    let same : t ≡ s +ℤ pos (suc n.0) = let is = n.1 in omega (arith, ints) in
    let product : suc n.0 * d ≡ n.0 * d + d = omega arith in
    let more : t *ℤ pos d ≡ (s *ℤ pos d) +ℤ pos (suc n.0 * d) = ap (λ (k : ℤ). k *ℤ pos d) same ∙ times-more s (suc n.0) d in
    omega (arith, ints)

-- each day lies in the month of its number
day-numbered : (day : ℤ) → neg_ℤ (pos 865_625) ≤ℤ day → (n : ℕ) × (day ≡ pos n -ℤ pos 865_625)
day-numbered day h = let n = above day (neg_ℤ (pos 865_625)) h in (n.0, let is = n.1 in omega (arith, ints))

month-numbered : (month : ℤ) → neg_ℤ (pos 4800) ≤ℤ month → (n : ℕ) × (month ≡ pos n -ℤ pos 4800)
month-numbered month h = let n = above month (neg_ℤ (pos 4800)) h in (n.0, let is = n.1 in omega (arith, ints))

low_of : (day first : ℤ) (n f : ℕ) → day ≡ pos n -ℤ pos 865_625 → first ≡ pos f -ℤ pos 865_625 → f ≤ n → first ≤ℤ day
low_of day first n f e g h = omega (arith, ints)

high_of : (day first : ℤ) (n f : ℕ) → day ≡ pos n -ℤ pos 865_625 → first ≡ pos f -ℤ pos 865_625 → n < f → day <ℤ first
high_of day first n f e g h = omega (arith, ints)

next_of : (month : ℤ) (n : ℕ) → month ≡ pos n -ℤ pos 4800 → month +ℤ pos 1 ≡ pos (suc n) -ℤ pos 4800
next_of month n e = omega (arith, ints)

least_month : (month : ℤ) (n : ℕ) → month ≡ pos n -ℤ pos 4800 → neg_ℤ (pos 4800) ≤ℤ month
least_month month n e = omega (arith, ints)

least_day : (day : ℤ) (n : ℕ) → day ≡ pos n -ℤ pos 865_625 → neg_ℤ (pos 865_625) ≤ℤ day
least_day day n e = omega (arith, ints)

numbered-month : (day : ℤ) (n : ℕ) → day ≡ pos n -ℤ pos 865_625 → month_of_day day ≡ pos (month_index n) -ℤ pos 4800
numbered-month day n e = ap month_of_day e ∙ month_of_day-at n

numbered-first : (month : ℤ) (n : ℕ) → month ≡ pos n -ℤ pos 4800 → first_day month ≡ pos (days_to n) -ℤ pos 865_625
numbered-first month n e = ap first_day e ∙ first_day-at n

pub month-low : (day : ℤ) → neg_ℤ (pos 865_625) ≤ℤ day → first_day (month_of_day day) ≤ℤ day
month-low day h =
    let n = day-numbered day h in
    let month = numbered-month day n.0 n.1 in
    low_of day (first_day (month_of_day day)) n.0 (days_to (month_index n.0)) n.1 (numbered-first (month_of_day day) (month_index n.0) month) (in_its_month n.0).0

pub month-high : (day : ℤ) → neg_ℤ (pos 865_625) ≤ℤ day → day <ℤ first_day (month_of_day day +ℤ pos 1)
month-high day h =
    let n = day-numbered day h in
    let month = numbered-month day n.0 n.1 in
    high_of day (first_day (month_of_day day +ℤ pos 1)) n.0 (days_to (suc (month_index n.0))) n.1
    (numbered-first (month_of_day day +ℤ pos 1) (suc (month_index n.0)) (next_of (month_of_day day) (month_index n.0) month)) (in_its_month n.0).1

pub month_of_day-least : (day : ℤ) → neg_ℤ (pos 865_625) ≤ℤ day → neg_ℤ (pos 4800) ≤ℤ month_of_day day
month_of_day-least day h = let n = day-numbered day h in least_month (month_of_day day) (month_index n.0) (numbered-month day n.0 n.1)

pub first_day-least : (month : ℤ) → neg_ℤ (pos 4800) ≤ℤ month → neg_ℤ (pos 865_625) ≤ℤ first_day month
first_day-least month h = let n = month-numbered month h in least_day (first_day month) (days_to n.0) (numbered-first month n.0 n.1)

less_numbered : (m n : ℤ) (a b : ℕ) → m ≡ pos a -ℤ pos 4800 → n ≡ pos b -ℤ pos 4800 → m <ℤ n → a < b
less_numbered m n a b e f h = omega (arith, ints)

pub first_day-rising : (m n : ℤ) → neg_ℤ (pos 4800) ≤ℤ m → m <ℤ n → first_day m <ℤ first_day n
first_day-rising m n low h =
    let a = month-numbered m low in
    let b = month-numbered n (most_most (neg_ℤ (pos 4800)) m n low (less-most m n h)) in
    high_of (first_day m) (first_day n) (days_to a.0) (days_to b.0) (numbered-first m a.0 a.1) (numbered-first n b.0 b.1)
    (days_to-rising a.0 b.0 (less_numbered m n a.0 b.0 a.1 b.1 h))

pub first_day-most : (m n : ℤ) → neg_ℤ (pos 4800) ≤ℤ m → m ≤ℤ n → first_day m ≤ℤ first_day n
first_day-most m n low h =
    by_lt_z m n (λ less. less-most (first_day m) (first_day n) (first_day-rising m n low less))
    (λ least. same-most (first_day m) (first_day n) (ap first_day (most_least m n h least)))

-- days and the local times in them
day-low : (local : ℤ) → midnight (day_at local) ≤ℤ local
day-low local = quotient-low local 86_400_000 (omega arith)

day-high : (local : ℤ) → local <ℤ (midnight (day_at local) +ℤ pos 86_400_000)
day-high local = quotient-high local 86_400_000 (omega arith)

same_day : (a b : ℤ) → midnight a ≤ℤ midnight b → midnight b <ℤ (midnight a +ℤ pos 86_400_000) → a ≡ b
same_day a b h k = omega (arith, ints)

pub day_at-midnight : (day : ℤ) → day_at (midnight day) ≡ day
day_at-midnight day = same_day (day_at (midnight day)) day (day-low (midnight day)) (day-high (midnight day))

under : (first day local : ℤ) → first ≤ℤ day → midnight day ≤ℤ local → midnight first ≤ℤ local
under first day local h k = omega (arith, ints)

over : (first day local : ℤ) → day <ℤ first → local <ℤ (midnight day +ℤ pos 86_400_000) → local <ℤ midnight first
over first day local h k = omega (arith, ints)

pub midnight-rising : (a b : ℤ) → a <ℤ b → midnight a <ℤ midnight b
midnight-rising a b h = omega (arith, ints)

later_day : (least day later local after : ℤ) → least ≤ℤ day → midnight day ≤ℤ local → local ≤ℤ after → after <ℤ (midnight later +ℤ pos 86_400_000) → least ≤ℤ later
later_day least day later local after h low le high = omega (arith, ints)

-- months are told from the year -400 on, other periods always
abbrev pub IsPlace : Period → ℤ → Type 0
IsPlace (Fixed millis) local = Unit {0}
IsPlace Week local = Unit {0}
IsPlace Month local = neg_ℤ (pos 865_625) ≤ℤ day_at local
IsPlace Quarter local = neg_ℤ (pos 865_625) ≤ℤ day_at local
IsPlace Year local = neg_ℤ (pos 865_625) ≤ℤ day_at local

abbrev pub IsNumber : Period → ℤ → Type 0
IsNumber (Fixed millis) number = Unit {0}
IsNumber Week number = Unit {0}
IsNumber Month number = neg_ℤ (pos 4800) ≤ℤ number
IsNumber Quarter number = neg_ℤ (pos 1600) ≤ℤ number
IsNumber Year number = neg_ℤ (pos 400) ≤ℤ number

quarter-least : (month quarter : ℤ) → neg_ℤ (pos 4800) ≤ℤ month → month <ℤ ((quarter *ℤ pos 3) +ℤ pos 3) → neg_ℤ (pos 1600) ≤ℤ quarter
quarter-least month quarter h k = omega (arith, ints)

year-least : (month year : ℤ) → neg_ℤ (pos 4800) ≤ℤ month → month <ℤ ((year *ℤ pos 12) +ℤ pos 12) → neg_ℤ (pos 400) ≤ℤ year
year-least month year h k = omega (arith, ints)

pub quarter_months-least : (quarter : ℤ) → neg_ℤ (pos 1600) ≤ℤ quarter → neg_ℤ (pos 4800) ≤ℤ (quarter *ℤ pos 3)
quarter_months-least quarter h = omega (arith, ints)

pub year_months-least : (year : ℤ) → neg_ℤ (pos 400) ≤ℤ year → neg_ℤ (pos 4800) ≤ℤ (year *ℤ pos 12)
year_months-least year h = omega (arith, ints)

pub number-is : (p : Period) (local : ℤ) → IsPlace p local → IsNumber p (number_of p local)
number-is (Fixed millis) local h = tt
number-is Week local h = tt
number-is Month local h = month_of_day-least (day_at local) h
number-is Quarter local h =
    quarter-least (month_of_day (day_at local)) (int_div_euclid (month_of_day (day_at local)) (pos 3)) (month_of_day-least (day_at local) h)
    (quotient-high (month_of_day (day_at local)) 3 (omega arith))
number-is Year local h =
    year-least (month_of_day (day_at local)) (int_div_euclid (month_of_day (day_at local)) (pos 12)) (month_of_day-least (day_at local) h)
    (quotient-high (month_of_day (day_at local)) 12 (omega arith))

first-place : (month : ℤ) → neg_ℤ (pos 4800) ≤ℤ month → neg_ℤ (pos 865_625) ≤ℤ day_at (midnight (first_day month))
first-place month h = subst (λ (day : ℤ). neg_ℤ (pos 865_625) ≤ℤ day) (sym (day_at-midnight (first_day month))) (first_day-least month h)

pub place-is : (p : Period) (number : ℤ) → IsNumber p number → IsPlace p (start_of p number)
place-is (Fixed millis) number h = tt
place-is Week number h = tt
place-is Month number h = first-place number h
place-is Quarter number h = first-place (number *ℤ pos 3) (quarter_months-least number h)
place-is Year number h = first-place (number *ℤ pos 12) (year_months-least number h)

place-later : (local later : ℤ) → neg_ℤ (pos 865_625) ≤ℤ day_at local → local ≤ℤ later → neg_ℤ (pos 865_625) ≤ℤ day_at later
place-later local later h le = later_day (neg_ℤ (pos 865_625)) (day_at local) (day_at later) local later h (day-low local) le (day-high later)

pub place-more : (p : Period) (local later : ℤ) → IsPlace p local → local ≤ℤ later → IsPlace p later
place-more (Fixed millis) local later h le = tt
place-more Week local later h le = tt
place-more Month local later h le = place-later local later h le
place-more Quarter local later h le = place-later local later h le
place-more Year local later h le = place-later local later h le

pub number-more : (p : Period) (m n : ℤ) → IsNumber p m → m ≤ℤ n → IsNumber p n
number-more (Fixed millis) m n h le = tt
number-more Week m n h le = tt
number-more Month m n h le = most_most (neg_ℤ (pos 4800)) m n h le
number-more Quarter m n h le = most_most (neg_ℤ (pos 1600)) m n h le
number-more Year m n h le = most_most (neg_ℤ (pos 400)) m n h le

-- the period of so many months that a day lies in
months-low : (k : ℕ) → 0 < k → (local : ℤ) → neg_ℤ (pos 865_625) ≤ℤ day_at local → neg_ℤ (pos 4800) ≤ℤ (int_div_euclid (month_of_day (day_at local)) (pos k) *ℤ pos k)
    → midnight (first_day (int_div_euclid (month_of_day (day_at local)) (pos k) *ℤ pos k)) ≤ℤ local
months-low k positive local place least =
    let month = month_of_day (day_at local) in
    under (first_day (int_div_euclid month (pos k) *ℤ pos k)) (day_at local) local
    (most_most (first_day (int_div_euclid month (pos k) *ℤ pos k)) (first_day month) (day_at local)
    (first_day-most (int_div_euclid month (pos k) *ℤ pos k) month least (quotient-low month k positive)) (month-low (day_at local) place))
    (day-low local)

months-high : (k : ℕ) → 0 < k → (local : ℤ) → neg_ℤ (pos 865_625) ≤ℤ day_at local
    → local <ℤ midnight (first_day ((int_div_euclid (month_of_day (day_at local)) (pos k) +ℤ pos 1) *ℤ pos k))
months-high k positive local place =
    let month = month_of_day (day_at local) in
    let next = (int_div_euclid month (pos k) +ℤ pos 1) *ℤ pos k in
    let further = subst (λ (end : ℤ). month <ℤ end) (sym (times-next (int_div_euclid month (pos k)) k)) (quotient-high month k positive) in
    let least = most_most (neg_ℤ (pos 4800)) month (month +ℤ pos 1) (month_of_day-least (day_at local) place) (less-most month (month +ℤ pos 1) (next-less month)) in
    over (first_day next) (day_at local) local
    (less_most (day_at local) (first_day (month +ℤ pos 1)) (first_day next) (month-high (day_at local) place) (first_day-most (month +ℤ pos 1) next least (less-next month next further)))
    (day-high local)

week-low : (local quotient : ℤ) → (quotient *ℤ pos 604_800_000) ≤ℤ (local -ℤ midnight (neg_ℤ (pos 3))) → ((quotient *ℤ pos 604_800_000) +ℤ midnight (neg_ℤ (pos 3))) ≤ℤ local
week-low local quotient h = omega (arith, ints)

week-high : (local quotient : ℤ) → (local -ℤ midnight (neg_ℤ (pos 3))) <ℤ ((quotient *ℤ pos 604_800_000) +ℤ pos 604_800_000)
    → local <ℤ (((quotient +ℤ pos 1) *ℤ pos 604_800_000) +ℤ midnight (neg_ℤ (pos 3)))
week-high local quotient h = omega (arith, ints)

week-rising : (m n : ℤ) → m <ℤ n → ((m *ℤ pos 604_800_000) +ℤ midnight (neg_ℤ (pos 3))) <ℤ ((n *ℤ pos 604_800_000) +ℤ midnight (neg_ℤ (pos 3)))
week-rising m n h = omega (arith, ints)

-- a period begins at each local time that it holds, or before it
pub begins : (p : Period) → IsPeriod p → (local : ℤ) → IsPlace p local → start_of p (number_of p local) ≤ℤ local
begins (Fixed millis) h local place = quotient-low local millis h.0
begins Week h local place = week-low local (int_div_euclid (local -ℤ midnight (neg_ℤ (pos 3))) (pos 604_800_000)) (quotient-low (local -ℤ midnight (neg_ℤ (pos 3))) 604_800_000 (omega arith))
begins Month h local place = under (first_day (month_of_day (day_at local))) (day_at local) local (month-low (day_at local) place) (day-low local)
begins Quarter h local place =
    months-low 3 (omega arith) local place (quarter_months-least (int_div_euclid (month_of_day (day_at local)) (pos 3)) (number-is Quarter local place))
begins Year h local place =
    months-low 12 (omega arith) local place (year_months-least (int_div_euclid (month_of_day (day_at local)) (pos 12)) (number-is Year local place))

-- and the next one begins after it
pub ends : (p : Period) → IsPeriod p → (local : ℤ) → IsPlace p local → local <ℤ start_of p (number_of p local +ℤ pos 1)
ends (Fixed millis) h local place =
    subst (λ (end : ℤ). local <ℤ end) (sym (times-next (int_div_euclid local (pos millis)) millis)) (quotient-high local millis h.0)
ends Week h local place = week-high local (int_div_euclid (local -ℤ midnight (neg_ℤ (pos 3))) (pos 604_800_000)) (quotient-high (local -ℤ midnight (neg_ℤ (pos 3))) 604_800_000 (omega arith))
ends Month h local place = over (first_day (month_of_day (day_at local) +ℤ pos 1)) (day_at local) local (month-high (day_at local) place) (day-high local)
ends Quarter h local place = months-high 3 (omega arith) local place
ends Year h local place = months-high 12 (omega arith) local place

-- a later period begins later
pub start-rising : (p : Period) → IsPeriod p → (m n : ℤ) → IsNumber p m → m <ℤ n → start_of p m <ℤ start_of p n
start-rising (Fixed millis) h m n number less = times-rising m n millis h.0 less
start-rising Week h m n number less = week-rising m n less
start-rising Month h m n number less = midnight-rising (first_day m) (first_day n) (first_day-rising m n number less)
start-rising Quarter h m n number less =
    midnight-rising (first_day (m *ℤ pos 3)) (first_day (n *ℤ pos 3))
    (first_day-rising (m *ℤ pos 3) (n *ℤ pos 3) (quarter_months-least m number) (times-rising m n 3 (omega arith) less))
start-rising Year h m n number less =
    midnight-rising (first_day (m *ℤ pos 12)) (first_day (n *ℤ pos 12))
    (first_day-rising (m *ℤ pos 12) (n *ℤ pos 12) (year_months-least m number) (times-rising m n 12 (omega arith) less))

module _ (p : Period) (h : IsPeriod p) where
  pub start-most : (m n : ℤ) → IsNumber p m → m ≤ℤ n → start_of p m ≤ℤ start_of p n
  start-most m n number le =
      by_lt_z m n (λ less. less-most (start_of p m) (start_of p n) (start-rising p h m n number less))
      (λ least. same-most (start_of p m) (start_of p n) (ap (start_of p) (most_least m n le least)))

  -- where a period has begun, no later one holds an earlier time
  not_before : (local m n : ℤ) → IsNumber p m → m <ℤ n → start_of p n ≤ℤ local → local <ℤ start_of p (m +ℤ pos 1) → ⊥
  not_before local m n number less low high =
      let number' = number-more p m (m +ℤ pos 1) number (less-most m (m +ℤ pos 1) (next-less m)) in
      less_itself local (less_most local (start_of p (m +ℤ pos 1)) local high
      (most_most (start_of p (m +ℤ pos 1)) (start_of p n) local (start-most (m +ℤ pos 1) n number' (less-next m n less)) low))

  -- the period of a local time is the one that has begun and whose next has not
  pub number-unique : (local n : ℤ) → IsPlace p local → IsNumber p n → start_of p n ≤ℤ local → local <ℤ start_of p (n +ℤ pos 1) → number_of p local ≡ n
  number-unique local n place number low high =
      by_lt_z (number_of p local) n
      (λ less. absurd (not_before local (number_of p local) n (number-is p local place) less low (ends p h local place)))
      (λ least. by_lt_z n (number_of p local)
      (λ less. absurd (not_before local n (number_of p local) number less (begins p h local place) high))
      (λ most. most_least (number_of p local) n most least))

  pub number_of-start_of : (n : ℤ) → IsNumber p n → number_of p (start_of p n) ≡ n
  number_of-start_of n number =
      number-unique (start_of p n) n (place-is p n number) number (same-most (start_of p n) (start_of p n) refl) (start-rising p h n (n +ℤ pos 1) number (next-less n))

  pub number-rising : (local later : ℤ) → IsPlace p local → local ≤ℤ later → number_of p local ≤ℤ number_of p later
  number-rising local later place le =
      let place' = place-more p local later place le in
      by_lt_z (number_of p later) (number_of p local)
      (λ less. absurd (not_before later (number_of p later) (number_of p local) (number-is p later place') less
      (most_most (start_of p (number_of p local)) local later (begins p h local place) le) (ends p h later place')))
      (λ least. least)

-- the month of a day is the one that has begun and whose next has not
midnight-most : (a b : ℤ) → a ≤ℤ b → midnight a ≤ℤ midnight b
midnight-most a b h = omega (arith, ints)

pub month-unique : (day month : ℤ) → neg_ℤ (pos 865_625) ≤ℤ day → neg_ℤ (pos 4800) ≤ℤ month → first_day month ≤ℤ day → day <ℤ first_day (month +ℤ pos 1) → month_of_day day ≡ month
month-unique day month place number low high =
    let same = sym (day_at-midnight day) in
    ap month_of_day same
    ∙ number-unique Month tt (midnight day) month (subst (λ (d : ℤ). neg_ℤ (pos 865_625) ≤ℤ d) same place) number
    (midnight-most (first_day month) day low) (midnight-rising day (first_day (month +ℤ pos 1)) high)

same_day_later : (a b : ℤ) (time : ℕ) → time < 86_400_000 → midnight a ≤ℤ (midnight b +ℤ pos time) → (midnight b +ℤ pos time) <ℤ (midnight a +ℤ pos 86_400_000) → a ≡ b
same_day_later a b time h low high = omega (arith, ints)

pub day_at-time : (day : ℤ) (time : ℕ) → time < 86_400_000 → day_at (midnight day +ℤ pos time) ≡ day
day_at-time day time h = same_day_later (day_at (midnight day +ℤ pos time)) day time h (day-low (midnight day +ℤ pos time)) (day-high (midnight day +ℤ pos time))
