use Rattle.std.proofs.Common.{◌≡◌, true, false, not, ◌-ℤ◌, ◌<ℤ◌, ◌≤ℤ◌, unsigned_abs, ℕ, List, sym, ◌∙◌, ap, rules, to_z, of_z}
use mir.Syntax.{w64}
use Rattle.std.specs.Int.Signed.{lt_z, lt_z_yes, lt_z_no}
use Rattle.std.proofs.lemmas.Int.{to_z-of_z}
use Rattle.list_laws.proofs.Booleans.{holds}
use Rattle.column_query.specs.NumberSets.{has_bit, has_place}
use Rattle.column_query.proofs.Marking.{place-before, place-from}
use Rattle.column_query.proofs.marks.is_marked.Goals as goal

pub returns-then-number-marks : goal.returns-then-number-marks
returns-then-number-marks c =
    let first = c.args.marks.now.first in
    let number = c.args.number in
    let plain_number : to_z w64 (of_z w64 number) ≡ number = to_z-of_z w64 number (search rules) in
    let plain_first : to_z w64 (of_z w64 first) ≡ first = to_z-of_z w64 first (search rules) in
    let test : lt_z number first ≡ true = sym (λ i. lt_z (plain_number i) (plain_first i)) ∙ c.if-number-marks.true in
    let before : number <ℤ first = lt_z_yes (holds (lt_z number first) test) in
    place-before c.args.marks.now.bits.items number first before

pub returns : goal.returns
returns c =
    let first = c.args.marks.now.first in
    let bits = c.args.marks.now.bits.items in
    let number = c.args.number in
    let plain_number : to_z w64 (of_z w64 number) ≡ number = to_z-of_z w64 number (search rules) in
    let plain_first : to_z w64 (of_z w64 first) ≡ first = to_z-of_z w64 first (search rules) in
    let test : lt_z number first ≡ false = sym (λ i. lt_z (plain_number i) (plain_first i)) ∙ c.if-number-marks.false in
    let from : first ≤ℤ number = lt_z_no (holds (not (lt_z number first)) (ap not test)) in
    let place : c.abs_diff.result ≡ unsigned_abs (number -ℤ first) = c.abs_diff.ensures ∙ (λ i. unsigned_abs (plain_number i -ℤ plain_first i)) in
    c.has_bit.ensures
    ∙ (ap (λ (words : List ℕ). has_bit words c.abs_diff.result) c.as_slice.ensures.value
    ∙ (ap (has_bit bits) place ∙ sym (ap (has_place bits) (place-from number first from))))
