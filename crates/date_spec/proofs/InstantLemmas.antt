-- Instants are days and the time of day.
use Rattle.std.proofs.Common.{◌≡◌, ℕ, ◌+◌, ◌*◌, ◌/◌, ◌%◌, ◌<◌, true, ◌&&◌, refl, ◌∙◌, ap, arith, ℤ, pos, negsuc, neg_ℤ, ◌+ℤ◌, ◌-ℤ◌, ◌*ℤ◌, ◌≤ℤ◌}
use Rattle.std.specs.Prelude.{nat_lt, int_le, unsigned_abs}
use Rattle.std.specs.Int.{int_div_euclid, int_rem_euclid}
use Rattle.std.proofs.lemmas.Bool.{lt-ltb, ltb-true}
use Rattle.std.proofs.lemmas.Int.{ints}
use Rattle.date_spec.specs.declared.range.TheConstants.{GREATEST_INSTANT, LEAST_INSTANT}
use Rattle.date_spec.specs.Calendar.{Date, is_date, date_of, day_number}
use Rattle.date_spec.specs.Instants.{Time, is_time, time_millis, time_after, instant_at, date_at, time_at, is_in_range}
use Rattle.date_spec.proofs.ShapeLemmas.{and_first, and_second, and_both}
use Rattle.date_spec.proofs.DayLemmas.{date_of-day_number, date_of-is_date, day_number-date_of}

abbrev pub day_of : ℤ → ℤ
day_of z = int_div_euclid z (pos 86_400_000)

abbrev pub millis_of : ℤ → ℕ
millis_of z = unsigned_abs (int_rem_euclid z (pos 86_400_000))

-- an instant is its day and its milliseconds
whole : (z : ℤ) → day_of z *ℤ pos 86_400_000 +ℤ pos (millis_of z) ≡ z
whole (pos n) = omega (arith, ints)
whole (negsuc n) = omega (arith, ints)

few_millis : (z : ℤ) → millis_of z < 86_400_000
few_millis (pos n) = omega (arith, ints)
few_millis (negsuc n) = omega (arith, ints)

-- and the day and the milliseconds of their sum
day_of-sum : (day : ℤ) (n : ℕ) → n < 86_400_000 → day_of (day *ℤ pos 86_400_000 +ℤ pos n) ≡ day
day_of-sum day n h = let z = whole (day *ℤ pos 86_400_000 +ℤ pos n) in let few = few_millis (day *ℤ pos 86_400_000 +ℤ pos n) in omega (arith, ints)

millis_of-sum : (day : ℤ) (n : ℕ) → n < 86_400_000 → millis_of (day *ℤ pos 86_400_000 +ℤ pos n) ≡ n
millis_of-sum day n h = let z = whole (day *ℤ pos 86_400_000 +ℤ pos n) in let same = day_of-sum day n h in omega (arith, ints)

-- the time after so many milliseconds
pub time_after-is_time : (n : ℕ) → n < 86_400_000 → is_time (time_after n) ≡ true
time_after-is_time n h =
    and_both _ _ (and_both _ _ (and_both _ _ (lt-ltb (n / 3_600_000) 24 (omega arith)) (lt-ltb (n / 60_000 % 60) 60 (omega arith))) (lt-ltb (n / 1000 % 60) 60 (omega arith))) (lt-ltb (n % 1000) 1000 (omega arith))

time_millis-time_after : (n : ℕ) → time_millis (time_after n) ≡ n
time_millis-time_after n =
    let hours : n / 60_000 / 60 ≡ n / 3_600_000 = omega arith in
    let minutes : n / 1000 / 60 ≡ n / 60_000 = omega arith in
    omega arith

-- the facts of a time, as numbers
pub record IsShort (t : Time) : Type 0 where
  pub hours : t.hour < 24
  pub minutes : t.minute < 60
  pub seconds : t.second < 60
  pub millis : t.milli < 1000

pub short : (t : Time) → is_time t ≡ true → IsShort t
short t h =
    let three = and_first (nat_lt t.hour 24 && nat_lt t.minute 60 && nat_lt t.second 60) _ h in
    let two = and_first (nat_lt t.hour 24 && nat_lt t.minute 60) _ three in
    record {
      hours = ltb-true t.hour 24 (and_first (nat_lt t.hour 24) _ two);
      minutes = ltb-true t.minute 60 (and_second (nat_lt t.hour 24) _ two);
      seconds = ltb-true t.second 60 (and_second (nat_lt t.hour 24 && nat_lt t.minute 60) _ three);
      millis = ltb-true t.milli 1000 (and_second (nat_lt t.hour 24 && nat_lt t.minute 60 && nat_lt t.second 60) _ h);
    }

time_millis-few : (t : Time) → is_time t ≡ true → time_millis t < 86_400_000
time_millis-few t h = let s = short t h in omega arith

time_after-time_millis : (t : Time) → is_time t ≡ true → time_after (time_millis t) ≡ t
time_after-time_millis t h =
    let s = short t h in
    let hour : time_millis t / 3_600_000 ≡ t.hour = omega arith in
    let minutes : time_millis t / 60_000 ≡ t.hour * 60 + t.minute = omega arith in
    let minute : (t.hour * 60 + t.minute) % 60 ≡ t.minute = omega arith in
    let seconds : time_millis t / 1000 ≡ (t.hour * 60 + t.minute) * 60 + t.second = omega arith in
    let second : ((t.hour * 60 + t.minute) * 60 + t.second) % 60 ≡ t.second = omega arith in
    let milli : time_millis t % 1000 ≡ t.milli = omega arith in
    rw (hour, minutes, minute, seconds, second, milli) refl

-- what a clock in UTC shows
pub time_at-is_time : (z : ℤ) → is_time (time_at z) ≡ true
time_at-is_time z = time_after-is_time (millis_of z) (few_millis z)

pub date_at-is_date : (z : ℤ) → is_date (date_at z) ≡ true
date_at-is_date z = date_of-is_date (day_of z)

-- the days of the range
pub record HasDay (z : ℤ) : Type 0 where
  pub low : neg_ℤ (pos 719_528) ≤ℤ day_of z
  pub high : day_of z ≤ℤ pos 2_932_896

in_order : (a b : ℤ) → int_le a b ≡ true → a ≤ℤ b
in_order a b h = omega (arith, ints)

pub has_day : (z : ℤ) → is_in_range z ≡ true → HasDay z
has_day z h =
    let same = whole z in
    let few = few_millis z in
    let least = in_order LEAST_INSTANT z (and_first (int_le LEAST_INSTANT z) _ h) in
    let greatest = in_order z GREATEST_INSTANT (and_second (int_le LEAST_INSTANT z) _ h) in
    record { low = omega (arith, ints); high = omega (arith, ints) }

-- the days from the first of the range on
pub day_from_least : (z : ℤ) → neg_ℤ (pos 62_167_219_200_000) ≤ℤ z → neg_ℤ (pos 719_528) ≤ℤ day_of z
day_from_least z h = let same = whole z in let few = few_millis z in omega (arith, ints)

-- the instant at which a clock shows what it shows
pub instant_at-shown : (z ahead : ℤ) → neg_ℤ (pos 719_528) ≤ℤ day_of z → instant_at (date_at z) (time_at z) ahead ≡ z -ℤ ahead
instant_at-shown z ahead low =
    let day = day_number-date_of (day_of z) low in
    let time = time_millis-time_after (millis_of z) in
    ap (λ d. (d *ℤ pos 86_400_000 +ℤ pos (time_millis (time_at z))) -ℤ ahead) day
    ∙ ap (λ n. (day_of z *ℤ pos 86_400_000 +ℤ pos n) -ℤ ahead) time
    ∙ ap (λ y. y -ℤ ahead) (whole z)

-- and what a clock in UTC shows at the instant at which it shows it
pub no_ahead : (z : ℤ) → z -ℤ pos 0 ≡ z
no_ahead z = omega (arith, ints)

pub date_at-instant_at : (d : Date) (t : Time) → is_date d ≡ true → is_time t ≡ true → date_at (instant_at d t (pos 0)) ≡ d
date_at-instant_at d t date time =
    ap date_at (no_ahead (day_number d *ℤ pos 86_400_000 +ℤ pos (time_millis t)))
    ∙ ap date_of (day_of-sum (day_number d) (time_millis t) (time_millis-few t time))
    ∙ date_of-day_number d date

pub time_at-instant_at : (d : Date) (t : Time) → is_time t ≡ true → time_at (instant_at d t (pos 0)) ≡ t
time_at-instant_at d t time =
    ap time_at (no_ahead (day_number d *ℤ pos 86_400_000 +ℤ pos (time_millis t)))
    ∙ ap time_after (millis_of-sum (day_number d) (time_millis t) (time_millis-few t time))
    ∙ time_after-time_millis t time
