use Rattle.std.proofs.Common.{◌≡◌, length, ap, sym, ◌∙◌, arith, ◌≤◌}
use Rattle.std.proofs.lemmas.Bool.Decides.{nat_tests}
use Rattle.shard_columns.proofs.Telling.{AreBytes, told}
use Rattle.shard_columns.proofs.mapped_words.is_word.Goals as goal

pub returns-then-word-le-BEGINNING : goal.returns-then-word-le-BEGINNING
returns-then-word-le-BEGINNING c =
    let first = c.as_bytes-first.ensures.value in
    let word = c.as_bytes-word.ensures.value in
    let bytes : AreBytes c.args.first.now = λ i. omega (arith, c.type_inv.first i) in
    let more : AreBytes c.args.word.now = λ i. omega (arith, c.type_inv.word i) in
    let size : length c.args.first.now ≡ length c.args.word.now = ap length (sym first) ∙ (c.if-first-word.true ∙ ap length word) in
    let short : length c.args.word.now ≤ 16 = omega (arith, c.if-word-le-BEGINNING.true, ap length word) in
    (λ yes. told c.args.first.now c.args.word.now bytes more size short c.requires, λ same. grind (arith, nat_tests, c.if-word-le-BEGINNING.true))
