-- Up to four digits write a number below 10,000.
use Rattle.std.proofs.Common.{◌≡◌, ◌≤◌, length, ℕ, ◌+◌, ◌-◌, ◌*◌, ◌<◌, ◌^◌, List, get_or, take, arith, ◌∙◌, ap}
use Rattle.std.specs.Str.Parse.{AllDigits, digits_value}
use Rattle.std.specs.Char.{digit_value}
use Rattle.std.specs.Int.{IsInRange}
use Rattle.std.proofs.lemmas.Str.Parse.{digit_at, digits_value_short, numerals_by_value, tells_digits, digits_value-take-le}
use Rattle.std.proofs.lemmas.Int.Digits.{digits_value_more}
use Rattle.std.proofs.lemmas.Bool.Decides.{nat_tests}
use Rattle.date_text.proofs.shapes.number.Goals as goal

value_of_digit : (d : ℕ) → IsInRange 48 57 d → digit_value d + 48 ≡ d
value_of_digit d h = grind (arith, nat_tests)

-- the number of one digit more, and its bound
one_more : (ds : List ℕ) (i n : ℕ) → AllDigits 10 ds → length ds ≤ 4 → i < length ds → n ≡ digits_value 10 (take i ds) → (48 ≤ get_or ds i 0) × (n * 10 + (get_or ds i 0 - 48) ≡ digits_value 10 (take (i + 1) ds)) × (n * 10 + (get_or ds i 0 - 48) < 10000)
one_more ds i n h few l e =
    let range = digit_at ds i h l in
    let value = value_of_digit (get_or ds i 0) range in
    let more = digits_value_more 10 ds i l in
    let short : digits_value 10 ds < 10 ^ 4 = digits_value_short (numerals_by_value _ tells_digits) ds 4 h few in
    let below = digits_value-take-le 10 ds (i + 1) (omega arith) in
    (omega arith, omega arith, omega arith)

pub overflow_mul-number : goal.overflow_mul-number
overflow_mul-number c =
    let one = one_more c.args.digits.now c.loop-digit.digit-index c.loop-digit.number c.requires.digits c.requires.few (omega arith) c.loop-digit.invariant in
    omega arith

pub overflow_sub-digit : goal.overflow_sub-digit
overflow_sub-digit c =
    (one_more c.args.digits.now c.loop-digit.digit-index c.loop-digit.number c.requires.digits c.requires.few (omega arith) c.loop-digit.invariant).0

pub overflow_add-number : goal.overflow_add-number
overflow_add-number c =
    let one = one_more c.args.digits.now c.loop-digit.digit-index c.loop-digit.number c.requires.digits c.requires.few (omega arith) c.loop-digit.invariant in
    omega arith

pub loop-digit-preserved : goal.loop-digit-preserved
loop-digit-preserved c =
    let one = one_more c.args.digits.now c.loop-digit.digit-index c.loop-digit.number c.requires.digits c.requires.few (omega arith) c.loop-digit.invariant in
    ap (λ x. c.loop-digit.number * 10 + x) c.from.ensures ∙ one.1
