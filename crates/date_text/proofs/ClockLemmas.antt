-- The numbers of a clock, and the instant that they make.
use Rattle.std.proofs.Common.{◌≡◌, ℕ, ◌^◌, ◌<◌, ◌≤◌, Bool, true, false, ◌&&◌, List, length, take, refl, arith, Some, None, ℤ, pos, ◌+ℤ◌, ◌-ℤ◌, ◌*ℤ◌}
use Rattle.std.specs.Prelude.{if◌then◌else◌, Option}
use Rattle.std.specs.Str.Parse.{AllDigits, digits_value}
use Rattle.std.proofs.lemmas.Bool.{true≢false}
use Rattle.std.proofs.lemmas.List.{length-take}
use Rattle.std.proofs.lemmas.Str.Parse.{digits_value_short, numerals_by_value, tells_digits}
use Rattle.date_spec.specs.Calendar.{is_date}
use Rattle.date_spec.specs.Instants.{is_time}
use Rattle.date_spec.specs.DateTexts.{date_in, time_in, shown_at, is_clock, whole_clock, ahead_of, instant_of_clock}
use Rattle.date_text.specs.Parts.{numbered, timed}

pub few : (n : ℕ) (xs : List ℕ) → length (take n xs) ≤ n
few n xs = omega (arith, length-take n xs)

-- few digits write a small number
pub small : (k : ℕ) (ds : List ℕ) (n : ℕ) → AllDigits 10 ds → length ds ≤ k → n ≡ digits_value 10 ds → n < 10 ^ k
small k ds n h few e = let short = digits_value_short (numerals_by_value _ tells_digits) ds k h few in omega (arith, e, short)

pub some_if : (b : Bool) (x y : ℤ) → Some y ≡ (if b then Some x else None) → (b ≡ true) × (y ≡ x)
some_if true x y e = (refl, cc)
some_if false x y e = cc

none_if : (b : Bool) (x : ℤ) → None ≡ (if b then Some x else None) → b ≡ false
none_if true x e = cc
none_if false x e = refl

and_left_false : (a b : Bool) → a ≡ false → (a && b) ≡ false
and_left_false true b e = absurd (true≢false e)
and_left_false false b e = refl

and_right_false : (a b : Bool) → b ≡ false → (a && b) ≡ false
and_right_false true b e = e
and_right_false false b e = refl

and_true : (a b : Bool) → a ≡ true → b ≡ true → (a && b) ≡ true
and_true true b e f = f
and_true false b e f = e

pub shown_at-no_date : (clock : List ℕ) (ahead : ℤ) → None ≡ numbered (date_in clock) → None ≡ shown_at clock ahead
unfolding shown_at
shown_at-no_date clock ahead e =
    rw (and_left_false _ (is_time (time_in clock)) (none_if (is_date (date_in clock)) _ e)) refl

pub shown_at-no_time : (clock : List ℕ) (ahead : ℤ) → None ≡ timed (time_in clock) → None ≡ shown_at clock ahead
unfolding shown_at
shown_at-no_time clock ahead e =
    rw (and_right_false (is_date (date_in clock)) _ (none_if (is_time (time_in clock)) _ e)) refl

pub shown_at-both : (clock : List ℕ) (ahead day time : ℤ) → Some day ≡ numbered (date_in clock) → Some time ≡ timed (time_in clock) → Some ((day *ℤ pos 86_400_000 +ℤ time) -ℤ ahead) ≡ shown_at clock ahead
unfolding shown_at
shown_at-both clock ahead day time e f =
    let d = some_if (is_date (date_in clock)) _ day e in
    let t = some_if (is_time (time_in clock)) _ time f in
    rw (and_true _ _ d.0 t.0, d.1, t.1) refl

none_either : (b : Bool) → ◌≡◌ {A = Option ℤ} None (if b then None else None)
none_either true = refl
none_either false = refl

pub not_a_clock : (clock offset : List ℕ) → is_clock clock offset ≡ false → None ≡ instant_of_clock clock offset
unfolding instant_of_clock
not_a_clock clock offset h = rw h refl

pub no_offset_of : (clock offset : List ℕ) → ahead_of offset ≡ None → None ≡ instant_of_clock clock offset
unfolding instant_of_clock
no_offset_of clock offset h = rw h (none_either (is_clock clock offset))

pub offset_of : (clock offset : List ℕ) (ahead : ℤ) → is_clock clock offset ≡ true → ahead_of offset ≡ Some ahead → shown_at (whole_clock clock) ahead ≡ instant_of_clock clock offset
unfolding instant_of_clock
offset_of clock offset ahead h e = rw (h, e) refl
