-- The texts of instants, from the parts that are written.
use Rattle.std.specs.Prelude.{◌≡◌, refl, ℕ, ◌/◌, ◌%◌, ℤ, pos, ◌+ℤ◌, ◌-ℤ◌, ◌≤ℤ◌, ◌<ℤ◌, int_le, int_lt, unsigned_abs, true, false, cond, ◌&&◌, List, ◌++◌, codes}
use Rattle.std.specs.Fmt.{signed_decimal}
use Rattle.std.proofs.Common.{◌∙◌, ap, sym, arith}
use Rattle.std.proofs.lemmas.Bool.{and_from}
use Rattle.std.proofs.lemmas.Int.{ints}
use Rattle.date_spec.specs.declared.range.TheConstants.{GREATEST_INSTANT, LEAST_INSTANT}
use Rattle.date_spec.specs.DateTexts.{printed_with}
use Rattle.date_spec.specs.Instants.{is_in_range}
use Rattle.date_spec.specs.Shapes.{padded}
use Rattle.agg_spec.specs.InstantTexts.{hours_text, instant_text, offset_text}

lt-is : (a b : ℤ) → a <ℤ b → int_lt a b ≡ true
lt-is a b h = grind (arith, ints, h)

lt-not : (a b : ℤ) → b ≤ℤ a → int_lt a b ≡ false
lt-not a b h = grind (arith, ints, h)

le-is : (a b : ℤ) → a ≤ℤ b → int_le a b ≡ true
le-is a b h = grind (arith, ints, h)

le-not : (a b : ℤ) → b <ℤ a → int_le a b ≡ false
le-not a b h = grind (arith, ints, h)

not_below : (zone : ℤ) → pos 0 <ℤ zone → pos 0 ≤ℤ zone
not_below zone h = omega (arith, ints, h)

pub hours_written : (h m : List ℕ) (minutes : ℕ) → h ≡ padded 2 (minutes / 60) → m ≡ padded 2 (minutes % 60) → h ++ (codes ":" ++ m) ≡ hours_text minutes
hours_written h m minutes hours rest = rw (hours, rest) refl

abbrev hours_of : ℤ → List ℕ
hours_of zone = hours_text (unsigned_abs zone / 60_000)

pub behind_utc : (zone : ℤ) → zone <ℤ pos 0 → codes "-" ++ hours_of zone ≡ offset_text zone
behind_utc zone h = ap (λ b. cond b (codes "-" ++ hours_of zone) (cond (int_lt (pos 0) zone) (codes "+" ++ hours_of zone) (codes "Z")))
    (sym (lt-is zone (pos 0) h))

pub ahead_of_utc : (zone : ℤ) → pos 0 <ℤ zone → codes "+" ++ hours_of zone ≡ offset_text zone
ahead_of_utc zone h =
    (λ i. cond (sym (lt-is (pos 0) zone h) i) (codes "+" ++ hours_of zone) (codes "Z"))
    ∙ ap (λ b. cond b (codes "-" ++ hours_of zone) (cond (int_lt (pos 0) zone) (codes "+" ++ hours_of zone) (codes "Z")))
    (sym (lt-not zone (pos 0) (not_below zone h)))

-- what a clock of a zone shows, where it lies in the range of dates
pub shown-in_range : (zone n : ℤ) → (LEAST_INSTANT -ℤ zone) ≤ℤ n → n ≤ℤ (GREATEST_INSTANT -ℤ zone) → is_in_range (n +ℤ zone) ≡ true
shown-in_range zone n low high =
    let least : LEAST_INSTANT ≤ℤ (n +ℤ zone) = omega (arith, ints, low) in
    let greatest : (n +ℤ zone) ≤ℤ GREATEST_INSTANT = omega (arith, ints, high) in
    and_from (int_le LEAST_INSTANT (n +ℤ zone)) (int_le (n +ℤ zone) GREATEST_INSTANT) (le-is LEAST_INSTANT (n +ℤ zone) least)
    (le-is (n +ℤ zone) GREATEST_INSTANT greatest)

pub shown : (zone n : ℤ) → is_in_range (n +ℤ zone) ≡ true → printed_with (offset_text zone) (n +ℤ zone) ≡ instant_text zone n
shown zone n h = ap (λ b. cond b (printed_with (offset_text zone) (n +ℤ zone)) (signed_decimal n)) (sym h)

-- beyond it the number of the instant stands
pub before_range : (zone n : ℤ) → n <ℤ (LEAST_INSTANT -ℤ zone) → signed_decimal n ≡ instant_text zone n
before_range zone n h =
    let below : (n +ℤ zone) <ℤ LEAST_INSTANT = omega (arith, ints, h) in
    ap (λ b. cond (b && int_le (n +ℤ zone) GREATEST_INSTANT) (printed_with (offset_text zone) (n +ℤ zone)) (signed_decimal n))
    (sym (le-not LEAST_INSTANT (n +ℤ zone) below))

pub behind_range : (zone n : ℤ) → (LEAST_INSTANT -ℤ zone) ≤ℤ n → (GREATEST_INSTANT -ℤ zone) <ℤ n → signed_decimal n ≡ instant_text zone n
behind_range zone n low h =
    let least : LEAST_INSTANT ≤ℤ (n +ℤ zone) = omega (arith, ints, low) in
    let above : GREATEST_INSTANT <ℤ (n +ℤ zone) = omega (arith, ints, h) in
    (λ i. cond (sym (le-not (n +ℤ zone) GREATEST_INSTANT above) i) (printed_with (offset_text zone) (n +ℤ zone)) (signed_decimal n))
    ∙ ap (λ b. cond (b && int_le (n +ℤ zone) GREATEST_INSTANT) (printed_with (offset_text zone) (n +ℤ zone)) (signed_decimal n))
    (sym (le-is LEAST_INSTANT (n +ℤ zone) least))
