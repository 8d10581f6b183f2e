-- Texts that are printed, read; and texts that are read, printed.
use Rattle.std.proofs.Common.{◌≡◌, ℕ, suc, ◌+◌, ◌<◌, ◌≤◌, Bool, true, false, ◌&&◌, List, [], ◌∷◌, ◌++◌, length, take, drop, refl, sym, ◌∙◌, ap, subst, arith, Some, None, ℤ, pos, neg_ℤ, ◌+ℤ◌, ◌-ℤ◌, ◌≤ℤ◌, append-nil, length-drop}
use Rattle.std.specs.Prelude.{replicate, codes, ◌==◌, Option, if◌then◌else◌, Result, Ok, Err}
use Rattle.std.specs.List.{list_all, position_or_len}
use Rattle.std.specs.Str.Parse.{digits_value}
use Rattle.std.proofs.lemmas.Bool.{false≢true}
use Rattle.std.proofs.lemmas.Bool.Decides.{nat_tests}
use Rattle.std.proofs.lemmas.List.{take_all, take_at, drop_at, drop-drop, drop-append-le, length-append, length-replicate, take-append-drop}
use Rattle.std.proofs.lemmas.Str.Parse.{digits_value_short, numerals_by_value, tells_digits}
use Rattle.date_spec.specs.Calendar.{Date, is_date}
use Rattle.date_spec.specs.Instants.{Time, is_time, instant_at, date_at, time_at, is_in_range}
use Rattle.date_spec.specs.Shapes.{has_shape, stands_for, number_at, padded}
use Rattle.date_spec.specs.declared.fault.DateFault.{DateFault}
use Rattle.date_spec.specs.declared.fault.DateFault.TheVariants.{OutOfRange}
use Rattle.std.proofs.lemmas.Int.{ints}
use Rattle.date_spec.specs.DateTexts.{is_millis, may_leave_off, is_clock, whole_clock, date_in, time_in, ahead_of, shown_at, begins_offset, clock_length, instant_of_clock, named_instant, clock_text, printed_with, printed, ranged, read_date}
use Rattle.date_spec.proofs.ShapeLemmas.{and_first, and_second, and_both, has_shape-length, has_shape-take, has_shape-drop, has_shape-append, digits_of_shape}
use Rattle.date_spec.proofs.TextLemmas.{whole_shape, full_shape, plain, plain_stands, ahead_of_z, z_alone, named_instant-clock, named_instant-full}
use Rattle.date_spec.proofs.DayLemmas.{counted, month_days-most, date_of-year}
use Rattle.date_spec.proofs.PaddedLemmas.{Writes, padded_writes, written_shape, padded-digits_value}
use Rattle.date_spec.proofs.InstantLemmas.{short, has_day, day_of, day_from_least, time_at-is_time, date_at-is_date, instant_at-shown, no_ahead, date_at-instant_at, time_at-instant_at}

-- the number behind digits and one character more, and the number of digits
number_behind : (ds rest : List ℕ) (k x b n : ℕ) → length ds ≡ k → number_at (k + suc b) n (ds ++ (x ∷ rest)) ≡ number_at b n rest
number_behind ds rest k x b n long =
    ap (λ xs. digits_value 10 (take n xs)) (sym (drop-drop (suc b) k (ds ++ (x ∷ rest))) ∙ ap (drop (suc b)) (drop_at ds (x ∷ rest) k long))

number_here : (ds rest : List ℕ) (k n : ℕ) → Writes k n ds → number_at 0 k (ds ++ rest) ≡ n
number_here ds rest k n w = ap (digits_value 10) (take_at ds rest k w.long) ∙ w.value

number_last : (ds : List ℕ) (k n : ℕ) → Writes k n ds → number_at 0 k ds ≡ n
number_last ds k n w = ap (digits_value 10) (take_all k ds (omega (arith, w.long))) ∙ w.value

-- digits and one character more have their shape, where what stands behind has
shape_behind : (k x : ℕ) (ds rest places : List ℕ) → has_shape (replicate k 48) ds ≡ true → stands_for x x ≡ true → has_shape places rest ≡ true → has_shape (replicate k 48 ++ (x ∷ places)) (ds ++ (x ∷ rest)) ≡ true
unfolding has_shape
shape_behind k x ds rest places h e g = has_shape-append (replicate k 48) (x ∷ places) ds (x ∷ rest) h (and_both (stands_for x x) _ e g)

-- a clock by its parts
abbrev from_second : List ℕ → List ℕ → List ℕ
from_second s l = s ++ (46 ∷ l)

abbrev from_minute : List ℕ → List ℕ → List ℕ → List ℕ
from_minute i s l = i ++ (58 ∷ from_second s l)

abbrev from_hour : List ℕ → List ℕ → List ℕ → List ℕ → List ℕ
from_hour h i s l = h ++ (58 ∷ from_minute i s l)

abbrev from_day : List ℕ → List ℕ → List ℕ → List ℕ → List ℕ → List ℕ
from_day d h i s l = d ++ (84 ∷ from_hour h i s l)

abbrev from_month : List ℕ → List ℕ → List ℕ → List ℕ → List ℕ → List ℕ → List ℕ
from_month m d h i s l = m ++ (45 ∷ from_day d h i s l)

abbrev from_year : List ℕ → List ℕ → List ℕ → List ℕ → List ℕ → List ℕ → List ℕ → List ℕ
from_year y m d h i s l = y ++ (45 ∷ from_month m d h i s l)

-- the numbers that the parts write
record Shows (date : Date) (time : Time) (y m d h i s l : List ℕ) : Type 0 where
  year : Writes 4 date.year y
  month : Writes 2 date.month m
  day : Writes 2 date.day d
  hour : Writes 2 time.hour h
  minute : Writes 2 time.minute i
  second : Writes 2 time.second s
  milli : Writes 3 time.milli l

date_of_parts : (date : Date) (time : Time) (y m d h i s l : List ℕ) → Shows date time y m d h i s l → date_in (from_year y m d h i s l) ≡ date
unfolding date_in
date_of_parts date time y m d h i s l w =
    let year = number_here y (45 ∷ from_month m d h i s l) 4 date.year w.year in
    let month = number_behind y (from_month m d h i s l) 4 45 0 2 w.year.long ∙ number_here m (45 ∷ from_day d h i s l) 2 date.month w.month in
    let day = number_behind y (from_month m d h i s l) 4 45 3 2 w.year.long ∙ number_behind m (from_day d h i s l) 2 45 0 2 w.month.long ∙ number_here d (84 ∷ from_hour h i s l) 2 date.day w.day in
    rw (year, month, day) refl

-- the number behind a date
behind_date : (y m d rest : List ℕ) (b n : ℕ) → length y ≡ 4 → length m ≡ 2 → length d ≡ 2 → number_at (11 + b) n (y ++ (45 ∷ (m ++ (45 ∷ (d ++ (84 ∷ rest)))))) ≡ number_at b n rest
behind_date y m d rest b n year month day =
    let six : 11 + b ≡ 4 + suc (6 + b) = omega arith in
    let three : 6 + b ≡ 2 + suc (3 + b) = omega arith in
    let none : 3 + b ≡ 2 + suc b = omega arith in
    ap (λ k. number_at k n (y ++ (45 ∷ (m ++ (45 ∷ (d ++ (84 ∷ rest))))))) six
    ∙ number_behind y (m ++ (45 ∷ (d ++ (84 ∷ rest)))) 4 45 (6 + b) n year
    ∙ ap (λ k. number_at k n (m ++ (45 ∷ (d ++ (84 ∷ rest))))) three
    ∙ number_behind m (d ++ (84 ∷ rest)) 2 45 (3 + b) n month
    ∙ ap (λ k. number_at k n (d ++ (84 ∷ rest))) none
    ∙ number_behind d rest 2 84 b n day

time_of_parts : (date : Date) (time : Time) (y m d h i s l : List ℕ) → Shows date time y m d h i s l → time_in (from_year y m d h i s l) ≡ time
unfolding time_in
time_of_parts date time y m d h i s l w =
    let hour = behind_date y m d (from_hour h i s l) 0 2 w.year.long w.month.long w.day.long ∙ number_here h (58 ∷ from_minute i s l) 2 time.hour w.hour in
    let minute = behind_date y m d (from_hour h i s l) 3 2 w.year.long w.month.long w.day.long ∙ number_behind h (from_minute i s l) 2 58 0 2 w.hour.long ∙ number_here i (58 ∷ from_second s l) 2 time.minute w.minute in
    let second = behind_date y m d (from_hour h i s l) 6 2 w.year.long w.month.long w.day.long ∙ number_behind h (from_minute i s l) 2 58 3 2 w.hour.long ∙ number_behind i (from_second s l) 2 58 0 2 w.minute.long ∙ number_here s (46 ∷ l) 2 time.second w.second in
    let milli = behind_date y m d (from_hour h i s l) 9 3 w.year.long w.month.long w.day.long ∙ number_behind h (from_minute i s l) 2 58 6 3 w.hour.long ∙ number_behind i (from_second s l) 2 58 3 3 w.minute.long ∙ number_behind s l 2 46 0 3 w.second.long ∙ number_last l 3 time.milli w.milli in
    rw (hour, minute, second, milli) refl

shape_of_parts : (date : Date) (time : Time) (y m d h i s l : List ℕ) → Shows date time y m d h i s l → has_shape whole_shape (from_year y m d h i s l) ≡ true
shape_of_parts date time y m d h i s l w =
    shape_behind 4 45 y (from_month m d h i s l) (codes "00-00T00:00:00.000") (written_shape 4 date.year y w.year) refl
    (shape_behind 2 45 m (from_day d h i s l) (codes "00T00:00:00.000") (written_shape 2 date.month m w.month) refl
    (shape_behind 2 84 d (from_hour h i s l) (codes "00:00:00.000") (written_shape 2 date.day d w.day) refl
    (shape_behind 2 58 h (from_minute i s l) (codes "00:00.000") (written_shape 2 time.hour h w.hour) refl
    (shape_behind 2 58 i (from_second s l) (codes "00.000") (written_shape 2 time.minute i w.minute) refl
    (shape_behind 2 46 s l (codes "000") (written_shape 2 time.second s w.second) refl
    (written_shape 3 time.milli l w.milli))))))

-- a clock that shows a date and a time
record IsShown (date : Date) (time : Time) (clock : List ℕ) : Type 0 where
  shape : has_shape whole_shape clock ≡ true
  date_is : date_in clock ≡ date
  time_is : time_in clock ≡ time

shows : (date : Date) (time : Time) → is_date date ≡ true → date.year ≤ 9999 → is_time time ≡ true → Shows date time (padded 4 date.year) (padded 2 date.month) (padded 2 date.day) (padded 2 time.hour) (padded 2 time.minute) (padded 2 time.second) (padded 3 time.milli)
shows date time is most clock =
    let c = counted date is in
    let days = month_days-most date.year date.month in
    let s = short time clock in
    record {
      year = padded_writes 4 date.year (omega arith) (omega arith) (omega arith);
      month = padded_writes 2 date.month (omega arith) (omega arith) (omega arith);
      day = padded_writes 2 date.day (omega arith) (omega arith) (omega arith);
      hour = padded_writes 2 time.hour (omega arith) (omega arith) (omega arith);
      minute = padded_writes 2 time.minute (omega arith) (omega arith) (omega arith);
      second = padded_writes 2 time.second (omega arith) (omega arith) (omega arith);
      milli = padded_writes 3 time.milli (omega arith) (omega arith) (omega arith);
    }

clock_text-parts : (d : Date) (t : Time) → from_year (padded 4 d.year) (padded 2 d.month) (padded 2 d.day) (padded 2 t.hour) (padded 2 t.minute) (padded 2 t.second) (padded 3 t.milli) ≡ clock_text d t
unfolding clock_text
clock_text-parts d t = refl

shown : (d : Date) (t : Time) → is_date d ≡ true → d.year ≤ 9999 → is_time t ≡ true → IsShown d t (clock_text d t)
shown d t is most clock =
    let w = shows d t is most clock in
    subst (λ text. IsShown d t text) (clock_text-parts d t)
    (record {
      shape = shape_of_parts d t (padded 4 d.year) (padded 2 d.month) (padded 2 d.day) (padded 2 t.hour) (padded 2 t.minute) (padded 2 t.second) (padded 3 t.milli) w;
      date_is = date_of_parts d t (padded 4 d.year) (padded 2 d.month) (padded 2 d.day) (padded 2 t.hour) (padded 2 t.minute) (padded 2 t.second) (padded 3 t.milli) w;
      time_is = time_of_parts d t (padded 4 d.year) (padded 2 d.month) (padded 2 d.day) (padded 2 t.hour) (padded 2 t.minute) (padded 2 t.second) (padded 3 t.milli) w;
    })

-- an offset begins with its sign
ahead_of-sign : (sign : ℕ) (offset : List ℕ) (ahead : ℤ) → ahead_of (sign ∷ offset) ≡ Some ahead → begins_offset sign ≡ true
unfolding ahead_of
ahead_of-sign sign offset ahead h = grind (arith, nat_tests)

offset_begins : (offset : List ℕ) (ahead : ℤ) → ahead_of offset ≡ Some ahead → position_or_len begins_offset offset ≡ 0
offset_begins [] ahead h = refl
offset_begins (sign ∷ offset) ahead h = let begins = ahead_of-sign sign offset ahead h in rw begins refl

-- it begins behind the places at which none begins
position-of_offset : (places cs offset : List ℕ) → list_all plain places ≡ true → has_shape places cs ≡ true → position_or_len begins_offset offset ≡ 0 → position_or_len begins_offset (cs ++ offset) ≡ length places
unfolding has_shape
position-of_offset [] [] offset p h g = g
position-of_offset [] (c ∷ cs) offset p h g = absurd (false≢true h)
position-of_offset (q ∷ qs) [] offset p h g = absurd (false≢true h)
position-of_offset (q ∷ qs) (c ∷ cs) offset p h g =
    let here = plain_stands q c (and_first (plain q) _ p) (and_first (stands_for q c) _ h) in
    let rest = position-of_offset qs cs offset (and_second (plain q) _ p) (and_second (stands_for q c) _ h) g in
    rw here (omega arith)

clock_length-is : (clock offset : List ℕ) → has_shape whole_shape clock ≡ true → position_or_len begins_offset offset ≡ 0 → clock_length (clock ++ offset) ≡ 23
unfolding clock_length
clock_length-is clock offset h g =
    let long : length clock ≡ 23 = has_shape-length whole_shape clock h in
    ap (λ xs. 10 + position_or_len begins_offset xs) (drop-append-le 10 clock offset (omega arith))
    ∙ ap (λ n. 10 + n) (position-of_offset (codes "T00:00:00.000") (drop 10 clock) offset refl (has_shape-drop whole_shape clock 10 h) g)

-- so long a text is no number of milliseconds
long_no_millis : (text : List ℕ) → 23 ≤ length text → is_millis text ≡ false
unfolding is_millis
long_no_millis text h = grind (arith, nat_tests, length-drop)

whole_is_clock : (clock offset : List ℕ) → has_shape whole_shape clock ≡ true → is_clock clock offset ≡ true
unfolding is_clock may_leave_off
whole_is_clock clock offset h =
    let long : length clock ≡ 23 = has_shape-length whole_shape clock h in
    rw long h

whole_is_whole : (clock : List ℕ) → has_shape whole_shape clock ≡ true → whole_clock clock ≡ clock
unfolding whole_clock
whole_is_whole clock h =
    let long : length clock ≡ 23 = has_shape-length whole_shape clock h in
    rw long (append-nil (take 23 clock) ∙ take_all 23 clock (omega arith))

instant_of_whole : (clock offset : List ℕ) (ahead : ℤ) → has_shape whole_shape clock ≡ true → ahead_of offset ≡ Some ahead → instant_of_clock clock offset ≡ shown_at clock ahead
unfolding instant_of_clock
instant_of_whole clock offset ahead h e = rw (whole_is_clock clock offset h, whole_is_whole clock h, e) refl

-- a whole clock and an offset name what the clock shows
named_instant-whole : (clock offset : List ℕ) (ahead : ℤ) → has_shape whole_shape clock ≡ true → ahead_of offset ≡ Some ahead → named_instant (clock ++ offset) ≡ shown_at clock ahead
named_instant-whole clock offset ahead h e =
    let long : length clock ≡ 23 = has_shape-length whole_shape clock h in
    named_instant-clock (clock ++ offset) (long_no_millis (clock ++ offset) (omega (arith, length-append clock offset)))
    ∙ ap (λ n. instant_of_clock (take n (clock ++ offset)) (drop n (clock ++ offset))) (clock_length-is clock offset h (offset_begins offset ahead e))
    ∙ ap (λ front. instant_of_clock front (drop 23 (clock ++ offset))) (take_at clock offset 23 long)
    ∙ ap (λ end. instant_of_clock clock end) (drop_at clock offset 23 long)
    ∙ instant_of_whole clock offset ahead h e

some_if : (b : Bool) (x : ℤ) → b ≡ true → ◌≡◌ {A = Option ℤ} (if b then Some x else None) (Some x)
some_if true x h = refl
some_if false x h = absurd (false≢true h)

shown_at-is : (clock : List ℕ) (d : Date) (t : Time) (ahead : ℤ) → IsShown d t clock → is_date d ≡ true → is_time t ≡ true → shown_at clock ahead ≡ Some (instant_at d t ahead)
unfolding shown_at
shown_at-is clock d t ahead s date time =
    ap (λ x. if is_date x && is_time (time_in clock) then Some (instant_at x (time_in clock) ahead) else None) s.date_is
    ∙ ap (λ x. if is_date d && is_time x then Some (instant_at d x ahead) else None) s.time_is
    ∙ some_if (is_date d && is_time t) (instant_at d t ahead) (and_both (is_date d) (is_time t) date time)

-- what is printed names its instant, less what the offset says
pub named_instant-printed : (z ahead : ℤ) (offset : List ℕ) → neg_ℤ (pos 719_528) ≤ℤ day_of z → (date_at z).year ≤ 9999 → ahead_of offset ≡ Some ahead → named_instant (printed_with offset z) ≡ Some (z -ℤ ahead)
named_instant-printed z ahead offset low most e =
    let s = shown (date_at z) (time_at z) (date_at-is_date z) most (time_at-is_time z) in
    named_instant-whole (clock_text (date_at z) (time_at z)) offset ahead s.shape e
    ∙ shown_at-is (clock_text (date_at z) (time_at z)) (date_at z) (time_at z) ahead s (date_at-is_date z) (time_at-is_time z)
    ∙ ap Some (instant_at-shown z ahead low)

ok_if : (b : Bool) (x : ℤ) → b ≡ true → ◌≡◌ {A = Result ℤ DateFault} (if b then Ok x else Err OutOfRange) (Ok x)
ok_if true x h = refl
ok_if false x h = absurd (false≢true h)

back : (z ahead : ℤ) → (z +ℤ ahead) -ℤ ahead ≡ z
back z ahead = omega (arith, ints)

-- and reads as the instant
pub read_date-printed_with : (z ahead : ℤ) (offset : List ℕ) → is_in_range z ≡ true → neg_ℤ (pos 62_167_219_200_000) ≤ℤ (z +ℤ ahead) → (date_at (z +ℤ ahead)).year ≤ 9999 → ahead_of offset ≡ Some ahead → read_date (printed_with offset (z +ℤ ahead)) ≡ Ok z
read_date-printed_with z ahead offset within low most e =
    ap ranged (named_instant-printed (z +ℤ ahead) ahead offset (day_from_least (z +ℤ ahead) low) most e ∙ ap Some (back z ahead))
    ∙ ok_if (is_in_range z) z within

-- the date of an instant in range has a year of four digits
pub year_in_range : (z : ℤ) → is_in_range z ≡ true → (date_at z).year ≤ 9999
year_in_range z h = let day = has_day z h in date_of-year (day_of z) day.low day.high

pub read_date-printed : (z : ℤ) → is_in_range z ≡ true → read_date (printed z) ≡ Ok z
read_date-printed z within =
    let day = has_day z within in
    ap ranged (named_instant-printed z (pos 0) (codes "Z") day.low (year_in_range z within) ahead_of_z ∙ ap Some (no_ahead z))
    ∙ ok_if (is_in_range z) z within

-- what is printed has the form
pub printed-shape : (z : ℤ) → is_in_range z ≡ true → has_shape full_shape (printed z) ≡ true
unfolding has_shape
printed-shape z within =
    let s = shown (date_at z) (time_at z) (date_at-is_date z) (year_in_range z within) (time_at-is_time z) in
    has_shape-append whole_shape (codes "Z") (clock_text (date_at z) (time_at z)) (codes "Z") s.shape refl

-- two instants in range that print as one text are one
pub printed-apart : (y z : ℤ) → is_in_range y ≡ true → is_in_range z ≡ true → printed y ≡ printed z → y ≡ z
printed-apart y z h g e = same_ok y z (sym (read_date-printed y h) ∙ ap read_date e ∙ read_date-printed z g)
  where
    same_ok : (y z : ℤ) → ◌≡◌ {A = Result ℤ DateFault} (Ok y) (Ok z) → y ≡ z
    same_ok y z e = cc

-- a text that begins with a character of the shape
head_stands : (x : ℕ) (places cs : List ℕ) → (x == 48) ≡ false → has_shape (x ∷ places) cs ≡ true → cs ≡ x ∷ drop 1 cs
unfolding has_shape
head_stands x places [] other h = absurd (false≢true h)
head_stands x places (c ∷ cs) other h = ap (λ y. y ∷ cs) (stands x c other (and_first (stands_for x c) _ h))
  where
    stands : (x c : ℕ) → (x == 48) ≡ false → stands_for x c ≡ true → c ≡ x
    stands x c other h = grind (arith, nat_tests)

-- digits are their number, padded
digits_padded : (k : ℕ) (ds : List ℕ) → 0 < k → k ≤ 4 → has_shape (replicate k 48) ds ≡ true → padded k (digits_value 10 ds) ≡ ds
digits_padded k ds some few h =
    let long : length ds ≡ k = has_shape-length (replicate k 48) ds h ∙ length-replicate {A = ℕ} k 48 in
    let digits = digits_of_shape k ds h in
    let small = digits_value_short (numerals_by_value _ tells_digits) ds 4 digits (omega arith) in
    subst (λ j. padded j (digits_value 10 ds) ≡ ds) long (padded-digits_value ds digits (omega arith) (omega arith))

-- so a part of a clock is its number, padded
part_padded : (clock places : List ℕ) (b k x : ℕ) → 0 < k → k ≤ 4 → (x == 48) ≡ false → has_shape (replicate k 48 ++ (x ∷ places)) (drop b clock) ≡ true → padded k (number_at b k clock) ++ (x ∷ drop (b + (k + 1)) clock) ≡ drop b clock
part_padded clock places b k x some few other h =
    let front : has_shape (replicate k 48) (take k (drop b clock)) ≡ true =
    subst (λ s. has_shape s (take k (drop b clock)) ≡ true) (take_at (replicate k 48) (x ∷ places) k (length-replicate {A = ℕ} k 48)) (has_shape-take (replicate k 48 ++ (x ∷ places)) (drop b clock) k h) in
    let behind : has_shape (x ∷ places) (drop k (drop b clock)) ≡ true =
    subst (λ s. has_shape s (drop k (drop b clock)) ≡ true) (drop_at (replicate k 48) (x ∷ places) k (length-replicate {A = ℕ} k 48)) (has_shape-drop (replicate k 48 ++ (x ∷ places)) (drop b clock) k h) in
    ap (λ ds. ds ++ (x ∷ drop (b + (k + 1)) clock)) (digits_padded k (take k (drop b clock)) some few front)
    ∙ ap (λ xs. take k (drop b clock) ++ (x ∷ xs)) (sym (drop-drop (k + 1) b clock) ∙ sym (drop-drop 1 k (drop b clock)))
    ∙ ap (λ xs. take k (drop b clock) ++ xs) (sym (head_stands x places (drop k (drop b clock)) other behind))
    ∙ take-append-drop k (drop b clock)

last_padded : (clock : List ℕ) (b k : ℕ) → 0 < k → k ≤ 4 → has_shape (replicate k 48) (drop b clock) ≡ true → padded k (number_at b k clock) ≡ drop b clock
last_padded clock b k some few h =
    let long : length (drop b clock) ≡ k = has_shape-length (replicate k 48) (drop b clock) h ∙ length-replicate {A = ℕ} k 48 in
    ap (λ ds. padded k (digits_value 10 ds)) (take_all k (drop b clock) (omega arith)) ∙ digits_padded k (drop b clock) some few h

-- a whole clock is what is printed of the date and the time that it shows
clock_text-whole : (clock : List ℕ) → has_shape whole_shape clock ≡ true → clock_text (date_in clock) (time_in clock) ≡ clock
unfolding clock_text date_in time_in
clock_text-whole clock h =
    let y = padded 4 (number_at 0 4 clock) in
    let m = padded 2 (number_at 5 2 clock) in
    let d = padded 2 (number_at 8 2 clock) in
    let hour = padded 2 (number_at 11 2 clock) in
    let i = padded 2 (number_at 14 2 clock) in
    let s = padded 2 (number_at 17 2 clock) in
    ap (λ l. from_year y m d hour i s l) (last_padded clock 20 3 (omega arith) (omega arith) (has_shape-drop whole_shape clock 20 h))
    ∙ ap (λ xs. y ++ (45 ∷ (m ++ (45 ∷ (d ++ (84 ∷ (hour ++ (58 ∷ (i ++ (58 ∷ xs)))))))))) (part_padded clock (codes "000") 17 2 46 (omega arith) (omega arith) refl (has_shape-drop whole_shape clock 17 h))
    ∙ ap (λ xs. y ++ (45 ∷ (m ++ (45 ∷ (d ++ (84 ∷ (hour ++ (58 ∷ xs)))))))) (part_padded clock (codes "00.000") 14 2 58 (omega arith) (omega arith) refl (has_shape-drop whole_shape clock 14 h))
    ∙ ap (λ xs. y ++ (45 ∷ (m ++ (45 ∷ (d ++ (84 ∷ xs)))))) (part_padded clock (codes "00:00.000") 11 2 58 (omega arith) (omega arith) refl (has_shape-drop whole_shape clock 11 h))
    ∙ ap (λ xs. y ++ (45 ∷ (m ++ (45 ∷ xs)))) (part_padded clock (codes "00:00:00.000") 8 2 84 (omega arith) (omega arith) refl (has_shape-drop whole_shape clock 8 h))
    ∙ ap (λ xs. y ++ (45 ∷ xs)) (part_padded clock (codes "00T00:00:00.000") 5 2 45 (omega arith) (omega arith) refl (has_shape-drop whole_shape clock 5 h))
    ∙ part_padded clock (codes "00-00T00:00:00.000") 0 4 45 (omega arith) (omega arith) refl h

-- what a text reads as it names
named_from_read : (o : Option ℤ) (z : ℤ) → ranged o ≡ Ok z → o ≡ Some z
named_from_read None z h = cc
named_from_read (Some y) z h = ap Some (ok_from (is_in_range y) y z h)
  where
    ok_from : (b : Bool) (y z : ℤ) → ◌≡◌ {A = Result ℤ DateFault} (if b then Ok y else Err OutOfRange) (Ok z) → y ≡ z
    ok_from true y z h = cc
    ok_from false y z h = cc

some_from : (b : Bool) (x y : ℤ) → ◌≡◌ {A = Option ℤ} (if b then Some x else None) (Some y) → (b ≡ true) × (x ≡ y)
some_from true x y h = (refl, cc)
some_from false x y h = cc

-- what a clock shows in UTC at an instant
record IsInstant (clock : List ℕ) (z : ℤ) : Type 0 where
  date : is_date (date_in clock) ≡ true
  time : is_time (time_in clock) ≡ true
  instant : instant_at (date_in clock) (time_in clock) (pos 0) ≡ z

instant_shown : (clock : List ℕ) (z : ℤ) → shown_at clock (pos 0) ≡ Some z → IsInstant clock z
unfolding shown_at
instant_shown clock z h =
    let both = some_from (is_date (date_in clock) && is_time (time_in clock)) (instant_at (date_in clock) (time_in clock) (pos 0)) z h in
    record {
      date = and_first (is_date (date_in clock)) (is_time (time_in clock)) both.0;
      time = and_second (is_date (date_in clock)) (is_time (time_in clock)) both.0;
      instant = both.1;
    }

-- a text of the printed form that reads as an instant is what that instant prints as
pub printed-read : (text : List ℕ) (z : ℤ) → has_shape full_shape text ≡ true → read_date text ≡ Ok z → printed z ≡ text
printed-read text z h e =
    let s = instant_shown (take 23 text) z (sym (named_instant-full text h) ∙ named_from_read (named_instant text) z e) in
    let date = ap date_at (sym s.instant) ∙ date_at-instant_at (date_in (take 23 text)) (time_in (take 23 text)) s.date s.time in
    let time = ap time_at (sym s.instant) ∙ time_at-instant_at (date_in (take 23 text)) (time_in (take 23 text)) s.time in
    ap (λ d. clock_text d (time_at z) ++ codes "Z") date
    ∙ ap (λ t. clock_text (date_in (take 23 text)) t ++ codes "Z") time
    ∙ ap (λ clock. clock ++ codes "Z") (clock_text-whole (take 23 text) (has_shape-take full_shape text 23 h))
    ∙ ap (λ end. take 23 text ++ end) (sym (z_alone (drop 23 text) (has_shape-drop full_shape text 23 h)))
    ∙ take-append-drop 23 text
