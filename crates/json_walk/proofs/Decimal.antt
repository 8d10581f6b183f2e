-- A decimal text fits 128 bits.
use Rattle.std.specs.Char.{is_ascii_digit, digit_value}
use Rattle.std.proofs.lemmas.Bool.Decides.{nat_tests}
use Rattle.std.proofs.Common.{zero, suc, ◌≡◌, ℕ, ◌<◌, ◌≤◌, ◌^◌, Bool, true, false, List, [], ◌∷◌, length, arith, ◌∙◌, refl, rules, tests, Result, Ok, cond, ℤ, pos, neg_ℤ}
use Rattle.std.specs.Int.{w128}
use Rattle.std.specs.Prelude.{unsigned_abs, ◌&&◌, nat_lt, nat_le}
use Rattle.std.specs.Str.{all_ascii_digits}
use Rattle.std.specs.Str.Parse.{AllDigits, digits_value, signed_digits_value, without_leading_sign, starts_with_minus, ParsesSigned}
use Rattle.std.proofs.lemmas.Int.Digits.{digits_value-lt}
use Rattle.std.proofs.lemmas.Int.{fits_signed_from_abs}
use Rattle.std.proofs.lemmas.Result.{Ok-from_Ok_iff}
use Rattle.std.proofs.Math.Nat.{pow-le-pow_right}
use Rattle.agg_reading.specs.Scalars.{digits_of, is_decimal}

-- both parts of a test
both : (a b : Bool) → (a && b) ≡ true → (a ≡ true) × (b ≡ true)
both true b h = (refl, h)
both false b h = absurd cc

digit : (c : ℕ) → is_ascii_digit c ≡ true → digit_value c < 10
digit c h = grind (arith, nat_tests)

are_digits : (ds : List ℕ) → all_ascii_digits ds ≡ true → AllDigits 10 ds
are_digits [] h = tt
are_digits (d ∷ ds) h = (digit d (both _ _ h).0, are_digits ds (both _ _ h).1)

-- a decimal text, part by part
record Parts (s : List ℕ) : Type 0 where
  some : 0 < length (digits_of s)
  few : length (digits_of s) ≤ 38
  digits : all_ascii_digits (digits_of s) ≡ true

parts : (s : List ℕ) → is_decimal s ≡ true → Parts s
parts s h =
    let p = both (nat_lt 0 (length (digits_of s)) && nat_le (length (digits_of s)) 38) (all_ascii_digits (digits_of s)) h in
    let q = both (nat_lt 0 (length (digits_of s))) (nat_le (length (digits_of s)) 38) p.0 in
    record { some = search (tests, rules); few = search (tests, rules); digits = p.1 }

same_digits : (s : List ℕ) → all_ascii_digits (digits_of s) ≡ true → without_leading_sign s ≡ digits_of s
same_digits [] h = refl
same_digits (c ∷ cs) h = grind (arith, nat_tests)

abs_pos : (b : Bool) (n : ℕ) → unsigned_abs (cond b (neg_ℤ (pos n)) (pos n)) ≡ n
abs_pos true zero = refl
abs_pos true (suc n) = refl
abs_pos false n = refl

pub parsed : {E : Type 0} (s : List ℕ) (r : Result ℤ E) → is_decimal s ≡ true → ParsesSigned w128 10 s r → r ≡ Ok (signed_digits_value 10 s)
parsed s r h p =
    let q = parts s h in
    let e = same_digits s q.digits in
    let all : AllDigits 10 (without_leading_sign s) = rw e (are_digits (digits_of s) q.digits) in
    let some : 0 < length (without_leading_sign s) = rw e q.some in
    let few : length (without_leading_sign s) ≤ 38 = rw e q.few in
    let below = digits_value-lt 10 (without_leading_sign s) all in
    let fits : unsigned_abs (signed_digits_value 10 s) < 2 ^ 127 = rw (abs_pos (starts_with_minus s) (digits_value 10 (without_leading_sign s))) (omega (arith, below, pow-le-pow_right {n = 10} (omega arith) few)) in
    Ok-from_Ok_iff r _ _ p ((some, all), fits_signed_from_abs w128 _ fits)
