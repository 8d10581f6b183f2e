-- Offsets of six characters by their digits.
use Rattle.std.proofs.Common.{◌≡◌, ◌≢◌, ◌≤◌, ◌<◌, ◌+◌, ◌*◌, ℕ, suc, List, [], ◌∷◌, length, get_or, drop, Bool, true, false, Some, None, ℤ, pos, neg_ℤ, refl, ap, arith}
use Rattle.std.specs.Prelude.{Option, ◌&&◌, ◌||◌, ◌==◌, nat_lt, nat_le, if◌then◌else◌}
use Rattle.std.specs.Char.{is_ascii_digit}
use Rattle.std.specs.Str.Parse.{digits_value}
use Rattle.std.proofs.lemmas.Bool.Decides.{nat_tests}
use Rattle.date_spec.specs.Shapes.{has_shape}
use Rattle.date_spec.specs.DateTexts.{ahead_of, is_offset, minutes_of}

abbrev pub are_digits : ℕ → ℕ → Bool
are_digits tens ones = is_ascii_digit tens && is_ascii_digit ones

abbrev pub number_of : ℕ → ℕ → ℕ
number_of tens ones = digits_value 10 (tens ∷ ones ∷ [])

-- of the three shapes of an offset the longest alone has five characters
longest : (a b c colon d e : Bool)
    → ((a && (b && false)) || ((a && (b && (c && (d && false)))) || ((a && (b && (colon && (d && (e && true))))) || false))) ≡ (colon && ((a && b) && (d && e)))
longest false b c true d e = refl
longest false b c false d e = refl
longest true false c true d e = refl
longest true false c false d e = refl
longest true true true true true true = refl
longest true true true true true false = refl
longest true true true true false e = refl
longest true true true false true e = refl
longest true true true false false e = refl
longest true true false true true true = refl
longest true true false true true false = refl
longest true true false true false e = refl
longest true true false false d e = refl

abbrev pub colon : List ℕ → Bool
colon xs = get_or xs 2 0 == 58

abbrev pub hours : List ℕ → ℕ
hours xs = number_of (get_or xs 0 0) (get_or xs 1 0)

abbrev pub minutes : List ℕ → ℕ
minutes xs = number_of (get_or xs 3 0) (get_or xs 4 0)

abbrev pub are_shown : List ℕ → Bool
are_shown xs = are_digits (get_or xs 0 0) (get_or xs 1 0) && are_digits (get_or xs 3 0) (get_or xs 4 0)

five : (xs : List ℕ) → length xs ≡ 5 → is_offset xs ≡ (((colon xs && are_shown xs) && nat_lt (minutes xs) 60) && nat_le (hours xs * 60 + minutes xs) 1080)
unfolding is_offset has_shape minutes_of
five (a ∷ b ∷ c ∷ d ∷ e ∷ []) h =
    ap (λ p. (p && nat_lt (number_of d e) 60) && nat_le (number_of a b * 60 + number_of d e) 1080)
    (longest (is_ascii_digit a) (is_ascii_digit b) (is_ascii_digit c) (c == 58) (is_ascii_digit d) (is_ascii_digit e))
five [] h = absurd (omega (arith, h))
five (a ∷ []) h = absurd (omega (arith, h))
five (a ∷ b ∷ []) h = absurd (omega (arith, h))
five (a ∷ b ∷ c ∷ []) h = absurd (omega (arith, h))
five (a ∷ b ∷ c ∷ d ∷ []) h = absurd (omega (arith, h))
five (a ∷ b ∷ c ∷ d ∷ e ∷ f ∷ xs) h = absurd (omega (arith, h))

in_all : (xs : List ℕ) → length xs ≡ 5 → minutes_of xs ≡ hours xs * 60 + minutes xs
unfolding minutes_of
in_all (a ∷ b ∷ c ∷ d ∷ e ∷ []) h = refl
in_all [] h = absurd (omega (arith, h))
in_all (a ∷ []) h = absurd (omega (arith, h))
in_all (a ∷ b ∷ []) h = absurd (omega (arith, h))
in_all (a ∷ b ∷ c ∷ []) h = absurd (omega (arith, h))
in_all (a ∷ b ∷ c ∷ d ∷ []) h = absurd (omega (arith, h))
in_all (a ∷ b ∷ c ∷ d ∷ e ∷ f ∷ xs) h = absurd (omega (arith, h))

-- what two characters write
pub none_two : (b : Bool) (x : ℕ) → None ≡ (if b then Some x else None) → b ≡ false
none_two true x e = cc
none_two false x e = refl

pub some_two : (b : Bool) (x n : ℕ) → Some n ≡ (if b then Some x else None) → (b ≡ true) × (n ≡ x)
some_two true x n e = (refl, cc)
some_two false x n e = cc

-- what is no offset, and what is one
abbrev pub offset : List ℕ → Option ℕ
offset xs = if is_offset xs then Some (minutes_of xs) else None

none_if : (b : Bool) (x : ℕ) → b ≡ false → ◌≡◌ {A = Option ℕ} None (if b then Some x else None)
none_if b x e = rw e refl

pub no_colon : (xs : List ℕ) → length xs ≡ 5 → get_or xs 2 0 ≢ 58 → None ≡ offset xs
no_colon xs h e = none_if (is_offset xs) (minutes_of xs) (rw (five xs h) (grind (arith, nat_tests, e)))

blank : (c d m k : Bool) → (((c && (false && d)) && m) && k) ≡ false
blank true d m k = refl
blank false d m k = refl

pub no_hours : (xs : List ℕ) → length xs ≡ 5 → are_digits (get_or xs 0 0) (get_or xs 1 0) ≡ false → None ≡ offset xs
no_hours xs h e = none_if (is_offset xs) (minutes_of xs) (rw (five xs h, e) (blank (colon xs) (are_digits (get_or xs 3 0) (get_or xs 4 0)) (nat_lt (minutes xs) 60) (nat_le (hours xs * 60 + minutes xs) 1080)))

pub no_minutes : (xs : List ℕ) → length xs ≡ 5 → are_digits (get_or xs 3 0) (get_or xs 4 0) ≡ false → None ≡ offset xs
no_minutes xs h e = none_if (is_offset xs) (minutes_of xs) (rw (five xs h, e) (grind (arith, nat_tests)))

too_late : (shown : Bool) (m t : ℕ) → (m < 60 → 1080 < t) → ((shown && nat_lt m 60) && nat_le t 1080) ≡ false
too_late false m t e = refl
too_late true m t e = grind (arith, nat_tests, e)

pub beyond : (xs : List ℕ) → length xs ≡ 5 → (minutes xs < 60 → 1080 < hours xs * 60 + minutes xs) → None ≡ offset xs
beyond xs h e = none_if (is_offset xs) (minutes_of xs) (rw (five xs h) (too_late (colon xs && are_shown xs) (minutes xs) (hours xs * 60 + minutes xs) e))

pub is_one : (xs : List ℕ) → length xs ≡ 5 → get_or xs 2 0 ≡ 58 → are_digits (get_or xs 0 0) (get_or xs 1 0) ≡ true → are_digits (get_or xs 3 0) (get_or xs 4 0) ≡ true → minutes xs < 60
    → hours xs * 60 + minutes xs ≤ 1080 → Some (hours xs * 60 + minutes xs) ≡ offset xs
is_one xs h c a b few most =
    let is : is_offset xs ≡ true = rw (five xs h, a, b) (grind (arith, nat_tests, c, few, most)) in
    rw (is, in_all xs h) refl

-- a sign before five characters
pub no_time : (sign : ℕ) (time : List ℕ) → length (sign ∷ time) ≡ 6 → None ≡ offset time → None ≡ ahead_of (sign ∷ time)
unfolding ahead_of
no_time sign time h e = let no = none_two (is_offset time) (minutes_of time) e in rw no (grind (arith, nat_tests, h))

pub plus : (time : List ℕ) (m : ℕ) → Some m ≡ offset time → Some (pos (m * 60_000)) ≡ ahead_of (43 ∷ time)
unfolding ahead_of
plus time m e = let is = some_two (is_offset time) (minutes_of time) m e in rw (is.0, is.1) refl

pub minus : (time : List ℕ) (m : ℕ) → Some m ≡ offset time → Some (neg_ℤ (pos (m * 60_000))) ≡ ahead_of (45 ∷ time)
unfolding ahead_of
minus time m e = let is = some_two (is_offset time) (minutes_of time) m e in rw (is.0, is.1) refl

pub no_sign : (sign : ℕ) (time : List ℕ) → length (sign ∷ time) ≡ 6 → (sign ≡ 43 → ⊥) → (sign ≡ 45 → ⊥) → None ≡ ahead_of (sign ∷ time)
unfolding ahead_of
no_sign sign time h p m = grind (arith, nat_tests, h)
