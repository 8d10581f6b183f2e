use Rattle.std.proofs.Common.{◌≡◌, ◌<◌, ℤ, ◌-ℤ◌, unsigned_abs, length, get_or, pos, sym, ◌∙◌, subst, arith, rules, to_z, of_z}
use mir.Syntax.{w64}
use Rattle.std.proofs.lemmas.Int.{to_z-of_z}
use Rattle.std.proofs.lemmas.List.{get_or_default}
use Rattle.column_query.specs.NumberSets.{AreWithin}
use Rattle.column_query.proofs.Marking.{place-low, marked-more}
use Rattle.column_query.proofs.marks.marks_from.Goals as goal

pub set_bit-requires : goal.set_bit-requires
set_bit-requires c =
    let numbers = c.args.numbers.now in
    let n = c.loop-number.number-index in
    let number = get_or numbers n (pos 0) in
    let below : n < length numbers = omega (arith, c.loop-number-test.true) in
    let plain : to_z w64 (of_z w64 number) ≡ number = to_z-of_z w64 number (search rules) in
    let first : to_z w64 (of_z w64 c.args.first) ≡ c.args.first = to_z-of_z w64 c.args.first (search rules) in
    let place : c.abs_diff.result ≡ unsigned_abs (number -ℤ c.args.first) = c.abs_diff.ensures ∙ (λ i. unsigned_abs (plain i -ℤ first i)) in
    let low = place-low numbers n number c.args.first c.args.words c.abs_diff.result below (get_or_default numbers n (pos 0) number below) c.requires place in
    omega (arith, low, c.loop-number.invariant.many)

pub loop-number-preserved : goal.loop-number-preserved
loop-number-preserved c =
    let numbers = c.args.numbers.now in
    let n = c.loop-number.number-index in
    let number = get_or numbers n (pos 0) in
    let first = to_z w64 (of_z w64 c.args.first) in
    let below : n < length numbers = omega (arith, c.loop-number-test.true) in
    let plain : to_z w64 (of_z w64 number) ≡ number = to_z-of_z w64 number (search rules) in
    let plain_first : first ≡ c.args.first = to_z-of_z w64 c.args.first (search rules) in
    let place : c.abs_diff.result ≡ unsigned_abs (number -ℤ first) = c.abs_diff.ensures ∙ (λ i. unsigned_abs (plain i -ℤ first)) in
    let are : AreWithin first c.args.words numbers = subst (λ (f : ℤ). AreWithin f c.args.words numbers) (sym plain_first) c.requires in
    record {
      many = c.set_bit.ensures.many ∙ c.loop-number.invariant.many;
      marks = marked-more numbers n number first c.args.words c.abs_diff.result below (get_or_default numbers n (pos 0) number below) are place
          c.loop-number.bits.items c.set_bit.new.bits.items c.set_bit.ensures.set c.loop-number.invariant.marks;
    }
