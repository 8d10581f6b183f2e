use Rattle.std.proofs.Common.{◌≡◌, ◌<◌, ◌-◌, ◌/◌, ◌+◌, ◌-ℤ◌, unsigned_abs, refl, ℤ, length, get_or, pos, sym, ◌∙◌, subst, arith, rules, to_z, of_z}
use mir.Syntax.{w64}
use Rattle.std.proofs.lemmas.Int.{to_z-of_z}
use Rattle.std.proofs.lemmas.List.{get_or_default}
use Rattle.column_query.specs.NumberSets.{AreWithin}
use Rattle.column_query.proofs.Marking.{within-ends}
use Rattle.column_query.proofs.marks.marks_of.Goals as goal

pub marks_from-requires : goal.marks_from-requires
marks_from-requires c =
    let numbers = c.args.numbers.now in
    let first = get_or numbers 0 (pos 0) in
    let last = get_or numbers (length numbers - 1) (pos 0) in
    let some : 0 < length numbers = search rules in
    let plain_first : to_z w64 (of_z w64 first) ≡ first = to_z-of_z w64 first (search rules) in
    let plain_last : to_z w64 (of_z w64 last) ≡ last = to_z-of_z w64 last (search rules) in
    let span : c.abs_diff-span.result ≡ unsigned_abs (last -ℤ first) = c.abs_diff-span.ensures ∙ (λ i. unsigned_abs (plain_last i -ℤ plain_first i)) in
    subst (λ (f : ℤ). AreWithin f (c.abs_diff-span.result / 64 + 1) numbers) (sym plain_first)
    (within-ends numbers c.requires first last c.abs_diff-span.result (c.abs_diff-span.result / 64 + 1) some
    (get_or_default numbers 0 (pos 0) first some) (get_or_default numbers (length numbers - 1) (pos 0) last (omega (arith, some))) span refl)
