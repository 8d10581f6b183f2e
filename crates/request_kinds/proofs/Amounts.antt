-- Digits in front of a text, and the amounts that they write.
use Rattle.std.proofs.Common.{◌≡◌, ◌≤◌, ◌<◌, ◌+◌, ◌^◌, ℕ, zero, suc, cond, rules, List, [], ◌∷◌, length, take, get_or, Result, Bool, true, false, refl, arith}
use Rattle.std.specs.Prelude.{not, ◌&&◌, ◌==◌, nat_le}
use Rattle.std.specs.Char.{is_ascii_digit}
use Rattle.std.specs.List.{list_all, prefix_len}
use Rattle.std.specs.Str.{IsUtf8, IsCharBoundary}
use Rattle.std.specs.Str.Parse.{digits_value, ParsesUnsigned}
use Rattle.std.proofs.lemmas.Bool.{false≢true, and_parts}
use Rattle.std.proofs.lemmas.Bool.Decides.{nat_tests}
use Rattle.std.proofs.lemmas.List.Sums.{prefix_len-le-length, prefix_len_passes}
use Rattle.std.proofs.lemmas.Str.{IsCharBoundary-start, IsCharBoundary-after_ascii}
use Rattle.std.proofs.lemmas.Str.Parse.{IsNumeralModel, IsDigitsTest, numerals_by_value, parse_digits}
use Rattle.list_laws.proofs.Booleans.{and_false}
use Rattle.agg_reading.specs.DateHistogram.{is_amount}

-- a text may be cut behind its digits
digit_small : (c : ℕ) → is_ascii_digit c ≡ true → c < 128
digit_small c h = grind (arith, nat_tests, h)

end_of_digits : (s : List ℕ) (n : ℕ) → IsUtf8 s → n ≡ prefix_len is_ascii_digit s → IsCharBoundary s n
end_of_digits s zero u e = IsCharBoundary-start s u
end_of_digits s (suc n) u e =
    let low = prefix_len-le-length is_ascii_digit s in
    let passes = prefix_len_passes is_ascii_digit s n 0 (omega (arith, e)) in
    let more : suc n ≡ n + 1 = omega arith in
    rw more (IsCharBoundary-after_ascii s n u (omega (arith, e, low)) (digit_small (get_or s n 0) passes))

pub cut_behind_digits : (s : List ℕ) → IsUtf8 s → IsCharBoundary s (prefix_len is_ascii_digit s)
cut_behind_digits s u = end_of_digits s (prefix_len is_ascii_digit s) u refl

pub front_digits : (s : List ℕ) → list_all is_ascii_digit (take (prefix_len is_ascii_digit s) s) ≡ true
front_digits [] = refl
front_digits (c ∷ s) =
    elim (is_ascii_digit c) as (λ b. is_ascii_digit c ≡ b → list_all is_ascii_digit (take (cond b (1 + prefix_len is_ascii_digit s) 0) (c ∷ s)) ≡ true) [
      | true ↦ λ e. let more : 1 + prefix_len is_ascii_digit s ≡ suc (prefix_len is_ascii_digit s) = omega arith in rw (more, e) (front_digits s)
      | false ↦ λ e. refl
    ] refl

-- digits that are no number of 64 bits write no amount
pub own : IsNumeralModel (λ ds. list_all is_ascii_digit ds ≡ true) (digits_value 10)
own = numerals_by_value _ (record { empty = refl; parts = λ c cs h. let p = and_parts (is_ascii_digit c) (list_all is_ascii_digit cs) h in (search (rules, p.0), p.1); more = λ c cs i h. search (rules, i, h) })

pub no_amount : (ds : List ℕ) → ((0 < length ds) × (digits_value 10 ds < 2 ^ 64) → ⊥) → is_amount ds ≡ false
unfolding is_amount
no_amount [] beyond = refl
no_amount (d ∷ ds) beyond =
    let v = digits_value 10 (d ∷ ds) in
    let high : nat_le v 2_147_483_647 ≡ false =
    elim (nat_le v 2_147_483_647) as (λ b. nat_le v 2_147_483_647 ≡ b → b ≡ false) [
      | true ↦ λ e. let small : v ≤ 2_147_483_647 = grind (arith, nat_tests, e) in absurd (beyond (omega arith, omega (arith, small)))
      | false ↦ λ e. refl
    ] refl in
    rw high (and_false (not (d == 48)))
