-- Numbers with zeros in front of them: their length, their digits and their value.
use Rattle.std.proofs.Common.{◌≡◌, ℕ, zero, suc, ◌-◌, ◌^◌, ◌<◌, ◌≤◌, inl, inr, true, List, [], ◌∷◌, ◌++◌, length, get_or, refl, sym, ◌∙◌, ap, subst, arith}
use Rattle.std.specs.Prelude.{replicate, decimal}
use Rattle.std.specs.Char.{is_ascii_digit}
use Rattle.std.specs.Int.{IsInRange}
use Rattle.std.specs.Str.Parse.{AllDigits, digits_value}
use Rattle.std.proofs.lemmas.Bool.{cases_eq}
use Rattle.std.proofs.lemmas.Bool.Decides.{nat_tests}
use Rattle.std.proofs.lemmas.Fmt.{decimal_is_IsNumeral, length-decimal-le, decimal-digits_value}
use Rattle.std.proofs.lemmas.Int.Digits.{digits_value-lt}
use Rattle.std.proofs.lemmas.List.{length-append, length-replicate}
use Rattle.std.proofs.lemmas.Str.Parse.{digit_from_value, numerals_by_value, tells_digits}
use Rattle.date_spec.specs.Shapes.{has_shape, stands_for, padded}
use Rattle.date_spec.proofs.ShapeLemmas.{and_both}

-- k digits that write n
pub record Writes (k n : ℕ) (ds : List ℕ) : Type 0 where
  pub long : length ds ≡ k
  pub digits : AllDigits 10 ds
  pub value : digits_value 10 ds ≡ n

zeros_before : (m : ℕ) (ds : List ℕ) → AllDigits 10 ds → AllDigits 10 (replicate m 48 ++ ds)
zeros_before zero ds h = h
zeros_before (suc m) ds h = (omega arith, zeros_before m ds h)

zeros_count_nothing : (m : ℕ) (ds : List ℕ) → digits_value 10 (replicate m 48 ++ ds) ≡ digits_value 10 ds
zeros_count_nothing zero ds = refl
zeros_count_nothing (suc m) ds = zeros_count_nothing m ds

pub padded_writes : (k n : ℕ) → 0 < k → n < 10 ^ k → n < 2 ^ 64 → Writes k n (padded k n)
padded_writes k n some small fits =
    let own = decimal_is_IsNumeral n fits in
    record {
      long = omega (arith, length-append (replicate (k - length (decimal n)) 48) (decimal n), length-replicate {A = ℕ} (k - length (decimal n)) 48, length-decimal-le k n some small fits);
      digits = zeros_before (k - length (decimal n)) (decimal n) own.0.1;
      value = zeros_count_nothing (k - length (decimal n)) (decimal n) ∙ own.1;
    }

digit_is : (c : ℕ) → IsInRange 48 57 c → is_ascii_digit c ≡ true
digit_is c h = grind (arith, nat_tests)

-- digits have the shape of digits
shape_of_digits : (ds : List ℕ) → AllDigits 10 ds → has_shape (replicate (length ds) 48) ds ≡ true
unfolding has_shape
shape_of_digits [] h = refl
shape_of_digits (d ∷ ds) h = and_both (stands_for 48 d) _ (digit_is d (digit_from_value d h.0)) (shape_of_digits ds h.1)

pub written_shape : (k n : ℕ) (ds : List ℕ) → Writes k n ds → has_shape (replicate k 48) ds ≡ true
written_shape k n ds w = subst (λ j. has_shape (replicate j 48) ds ≡ true) w.long (shape_of_digits ds w.digits)

-- so many digits are the number that they write, padded
padded-more : (k n : ℕ) → length (decimal n) ≤ k → padded (suc k) n ≡ 48 ∷ padded k n
padded-more k n h =
    let more : suc k - length (decimal n) ≡ suc (k - length (decimal n)) = omega arith in
    ap (λ j. replicate j 48 ++ decimal n) more

padded-full : (k n : ℕ) → length (decimal n) ≡ k → padded k n ≡ decimal n
padded-full k n h =
    let none : k - length (decimal n) ≡ 0 = omega arith in
    ap (λ j. replicate j 48 ++ decimal n) none

full : (ds : List ℕ) → AllDigits 10 ds → 0 < length ds → (get_or ds 0 0 ≡ 48 → length ds ≡ 1) → digits_value 10 ds < 2 ^ 64 → padded (length ds) (digits_value 10 ds) ≡ ds
full ds h some lead fits =
    let same = decimal-digits_value (numerals_by_value _ tells_digits) ds h some lead fits in
    padded-full (length ds) (digits_value 10 ds) (ap length same) ∙ same

pub padded-digits_value : (ds : List ℕ) → AllDigits 10 ds → 0 < length ds → digits_value 10 ds < 2 ^ 64 → padded (length ds) (digits_value 10 ds) ≡ ds
padded-digits_value [] h some fits = absurd (omega arith)
padded-digits_value (d ∷ []) h some fits = full (d ∷ []) h some (λ e. refl) fits
padded-digits_value (d ∷ e ∷ ds) h some fits =
    elim (cases_eq d 48) [
      | inl lead ↦
          let small = digits_value-lt 10 (e ∷ ds) h.1 in
          subst (λ c. padded (suc (suc (length ds))) (digits_value 10 (c ∷ e ∷ ds)) ≡ c ∷ e ∷ ds) (sym lead)
          (padded-more (suc (length ds)) (digits_value 10 (e ∷ ds)) (length-decimal-le (suc (length ds)) (digits_value 10 (e ∷ ds)) (omega arith) small (rw lead at fits))
          ∙ ap (λ xs. 48 ∷ xs) (padded-digits_value (e ∷ ds) h.1 (omega arith) (rw lead at fits)))
      | inr other ↦ full (d ∷ e ∷ ds) h some (λ same. absurd (other same)) fits
    ]
