-- Texts of digits, and the places in a text.
use Rattle.std.proofs.Common.{◌≡◌, ℕ, zero, suc, ◌+◌, ◌<◌, ◌≤◌, Bool, true, false, ◌&&◌, List, [], ◌∷◌, length, get_or, take, drop, refl, sym, ◌∙◌, ap, arith, ℤ, pos, neg_ℤ, ◌<ℤ◌, FitsSigned, w64, ◌⊎◌, inl, inr}
use Rattle.std.specs.Prelude.{nat_le, min, ◌==◌}
use Rattle.std.specs.Char.{is_ascii_digit}
use Rattle.std.specs.List.{list_all, position_or_len}
use Rattle.std.specs.Str.{all_ascii_digits}
use Rattle.std.specs.Str.Parse.{IsNumeral, without_leading_sign, without_leading_plus, starts_with_minus, signed_digits_value}
use Rattle.std.proofs.lemmas.Bool.{le-leb, lt-leb, leb-true}
use Rattle.std.proofs.lemmas.Bool.Decides.{nat_tests}
use Rattle.std.proofs.lemmas.Int.{ints, by_lt_z}
use Rattle.std.proofs.lemmas.List.{take_all}
use Rattle.std.proofs.Math.ListN.{drop_of_length-le}
use Rattle.std.proofs.lemmas.Str.Parse.{numerals_by_value, tells_all_ascii_digits}
use Rattle.date_spec.specs.DateTexts.{digits_of, is_millis}
use Rattle.date_spec.specs.Instants.{is_in_range}
use Rattle.date_spec.proofs.ShapeLemmas.{and_first, and_second}

all_digits : (cs : List ℕ) → list_all is_ascii_digit cs ≡ all_ascii_digits cs
all_digits [] = refl
all_digits (c ∷ cs) = ap (λ b. is_ascii_digit c && b) (all_digits cs)

and_no : (b : Bool) → (b && false) ≡ false
and_no true = refl
and_no false = refl

-- so many digits are milliseconds
pub is_millis-long : (text : List ℕ) → 5 ≤ length (digits_of text) → length (digits_of text) ≤ 19 → list_all is_ascii_digit (digits_of text) ≡ is_millis text
unfolding is_millis
is_millis-long text low high = rw (le-leb 5 _ low, le-leb _ 19 high) (all_digits (digits_of text))

pub is_millis-short : (text : List ℕ) → length (digits_of text) < 5 → false ≡ is_millis text
unfolding is_millis
is_millis-short text low = rw (lt-leb 5 _ low) refl

pub is_millis-longer : (text : List ℕ) → 19 < length (digits_of text) → false ≡ is_millis text
unfolding is_millis
is_millis-longer text high = rw (lt-leb _ 19 high, and_no (nat_le 5 (length (digits_of text)))) refl

-- one element more, before which none passes
position_next : (p : ℕ → Bool) (x : ℕ) (xs : List ℕ) (i : ℕ) → position_or_len p (take (suc i) (x ∷ xs)) ≡ suc i → (position_or_len p (take i xs) ≡ i → position_or_len p (take (i + 1) xs) ≡ i + 1) → position_or_len p (take (suc (i + 1)) (x ∷ xs)) ≡ suc (i + 1)
position_next p x xs i h f = position_split p x (take i xs) (take (i + 1) xs) i h f
  where
    position_split : (p : ℕ → Bool) (x : ℕ) (front longer : List ℕ) (i : ℕ) → position_or_len p (x ∷ front) ≡ suc i → (position_or_len p front ≡ i → position_or_len p longer ≡ i + 1) → position_or_len p (x ∷ longer) ≡ suc (i + 1)
    position_split p x front longer i h f = grind arith

position_at : (p : ℕ → Bool) (x : ℕ) (xs : List ℕ) (i : ℕ) → position_or_len p (take (suc i) (x ∷ xs)) ≡ suc i → (position_or_len p (take i xs) ≡ i → position_or_len p xs ≡ i) → position_or_len p (x ∷ xs) ≡ suc i
position_at p x xs i h f = position_still p x (take i xs) xs i h f
  where
    position_still : (p : ℕ → Bool) (x : ℕ) (front xs : List ℕ) (i : ℕ) → position_or_len p (x ∷ front) ≡ suc i → (position_or_len p front ≡ i → position_or_len p xs ≡ i) → position_or_len p (x ∷ xs) ≡ suc i
    position_still p x front xs i h f = grind arith

pub position_none : (p : ℕ → Bool) (xs : List ℕ) → position_or_len p (take 0 xs) ≡ 0
position_none p xs = refl

pub position_more : (p : ℕ → Bool) (xs : List ℕ) (i : ℕ) → i < length xs → position_or_len p (take i xs) ≡ i → p (get_or xs i 0) ≡ false → position_or_len p (take (i + 1) xs) ≡ i + 1
position_more p [] i l h g = absurd (omega arith)
position_more p (x ∷ xs) zero l h g = rw g refl
position_more p (x ∷ xs) (suc i) l h g =
    let one : suc i + 1 ≡ suc (i + 1) = omega arith in
    rw one (position_next p x xs i h (λ e. position_more p xs i (omega arith) e g))

pub position_found : (p : ℕ → Bool) (xs : List ℕ) (i : ℕ) → i < length xs → position_or_len p (take i xs) ≡ i → p (get_or xs i 0) ≡ true → position_or_len p xs ≡ i
position_found p [] i l h g = absurd (omega arith)
position_found p (x ∷ xs) zero l h g = rw g refl
position_found p (x ∷ xs) (suc i) l h g = position_at p x xs i h (λ e. position_found p xs i (omega arith) e g)

pub drop_short : (n : ℕ) (xs : List ℕ) → length xs ≤ n → drop n xs ≡ []
drop_short n xs h = drop_of_length-le xs h

cases_le : (m n : ℕ) → (m ≤ n) ⊎ (n < m)
cases_le m n = grind arith

pub take_least : (n : ℕ) (xs : List ℕ) → take (min n (length xs)) xs ≡ take n xs
take_least n xs = elim (cases_le n (length xs)) [
  | inl le ↦ let same : min n (length xs) ≡ n = omega arith in ap (λ k. take k xs) same
  | inr gt ↦ let same : min n (length xs) ≡ length xs = omega arith in
      ap (λ k. take k xs) same ∙ take_all (length xs) xs (omega arith) ∙ sym (take_all n xs (omega arith))
]

pub drop_least : (n : ℕ) (xs : List ℕ) → drop (min n (length xs)) xs ≡ drop n xs
drop_least n xs = elim (cases_le n (length xs)) [
  | inl le ↦ let same : min n (length xs) ≡ n = omega arith in ap (λ k. drop k xs) same
  | inr gt ↦ let same : min n (length xs) ≡ length xs = omega arith in
      ap (λ k. drop k xs) same ∙ drop_short (length xs) xs (omega arith) ∙ sym (drop_short n xs (omega arith))
]

-- a number of more than 64 bits lies beyond the range
beyond_range : (z : ℤ) → (FitsSigned w64 z → ⊥) → is_in_range z ≡ false
beyond_range z big = by_lt_z z (neg_ℤ (pos 62_167_219_200_000)) (λ low. in_first z low) (λ ge. by_lt_z (pos 253_402_214_399_999) z (λ high. in_second z high) (λ le. let fits : FitsSigned w64 z = omega (arith, ints) in absurd (big fits)))
  where
    in_first : (z : ℤ) → z <ℤ neg_ℤ (pos 62_167_219_200_000) → is_in_range z ≡ false
    in_first z low = grind (arith, ints)

    in_second : (z : ℤ) → pos 253_402_214_399_999 <ℤ z → is_in_range z ≡ false
    in_second z high = grind (arith, ints)

digit_no_plus : (c : ℕ) → is_ascii_digit c ≡ true → (c == 43) ≡ false
digit_no_plus c h = grind (arith, nat_tests)

-- digits begin with no plus
no_plus : (ds : List ℕ) → all_ascii_digits ds ≡ true → without_leading_plus ds ≡ ds
no_plus [] h = refl
no_plus (d ∷ ds) h = rw (digit_no_plus d (and_first (is_ascii_digit d) _ h)) refl

unsigned : (b : Bool) (text : List ℕ) → starts_with_minus text ≡ b → all_ascii_digits (digits_of text) ≡ true → without_leading_sign text ≡ digits_of text
unsigned true text b h = rw b refl
unsigned false text b h = rw b (no_plus text (rw b at h))

numeral : (text : List ℕ) → is_millis text ≡ true → IsNumeral 10 (without_leading_sign text)
unfolding is_millis
numeral text h =
    let digits = and_second (nat_le 5 (length (digits_of text)) && nat_le (length (digits_of text)) 19) _ h in
    let some = leb-true 5 (length (digits_of text)) (and_first (nat_le 5 (length (digits_of text))) _ (and_first (nat_le 5 (length (digits_of text)) && nat_le (length (digits_of text)) 19) _ h)) in
    let long : 0 < length (digits_of text) = omega arith in
    rw (unsigned (starts_with_minus text) text refl digits) (long, (numerals_by_value _ tells_all_ascii_digits).to (digits_of text) digits)

-- digits that are no number of 64 bits name an instant beyond the range
pub millis_beyond : (text : List ℕ) → is_millis text ≡ true → (IsNumeral 10 (without_leading_sign text) × FitsSigned w64 (signed_digits_value 10 text) → ⊥) → is_in_range (signed_digits_value 10 text) ≡ false
millis_beyond text h not = beyond_range (signed_digits_value 10 text) (λ fits. not (numeral text h, fits))
