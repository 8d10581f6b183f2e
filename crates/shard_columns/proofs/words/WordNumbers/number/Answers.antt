use Rattle.std.proofs.Common.{◌≡◌, ◌∷◌, ◌+◌, ◌∙◌, [], ℕ, refl, length, length-append, ap, subst, arith}
use Rattle.std.specs.Vec.{with_item}
use Rattle.shard_columns.specs.declared.words.WordNumbers.{WordNumbers}
use Rattle.shard_columns.specs.Numbered.{IsGiven}
use Rattle.shard_columns.proofs.Noting.{Notes-number, Numbering-made, next-number}
use Rattle.shard_columns.proofs.words.WordNumbers.number.Goals as goal

pub returns-then-number-next-clause-notes : goal.returns-then-number-next-clause-notes
returns-then-number-next-clause-notes c =
    let n = c.in_ok-number.number in
    let word = c.args.word.now in
    let here = c.index_mut.result.now in
    let noted = c.number.new.self in
    let new : WordNumbers = record { by_field = with_item c.args.self.now.by_field c.args.field noted; ranks = c.args.self.now.ranks } in
    let next : c.len-next.result ≡ length c.args.self.now.ranks.items = omega (arith, c.len-next.ensures, c.args.self.now.ranks.ok.0) in
    let given = subst (λ (m : ℕ). IsGiven here noted word n m) next c.in_ok-number.ensures in
    Notes-number c.args.self.now new c.args.field n word c.requires.sound
    (Numbering-made c.args.self.now new c.args.field n word here noted c.requires.in_range c.index_mut.ensures.value refl given (omega (arith, c.if-number-next.true, next)) (omega arith))

pub returns-clause-notes : goal.returns-clause-notes
returns-clause-notes c =
    let n = c.in_ok-number.number in
    let word = c.args.word.now in
    let here = c.index_mut.result.now in
    let noted = c.number.new.self in
    let new : WordNumbers = record { by_field = with_item c.args.self.now.by_field c.args.field noted; ranks = c.push.new.self } in
    let next : c.len-next.result ≡ length c.args.self.now.ranks.items = omega (arith, c.len-next.ensures, c.args.self.now.ranks.ok.0) in
    let given = subst (λ (m : ℕ). IsGiven here noted word n m) next c.in_ok-number.ensures in
    let size : length c.push.new.self.items ≡ length c.args.self.now.ranks.items + 1 = ap length c.in_ok-push.ensures.items ∙ length-append c.args.self.now.ranks.items (0 ∷ []) in
    let low = next-number c.args.self.now new c.args.field n word here noted c.requires.in_range c.index_mut.ensures.value refl given c.requires.sound in
    Notes-number c.args.self.now new c.args.field n word c.requires.sound
    (Numbering-made c.args.self.now new c.args.field n word here noted c.requires.in_range c.index_mut.ensures.value refl given (omega (arith, low, size)) (omega (arith, size)))
