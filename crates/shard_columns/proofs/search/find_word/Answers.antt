use Rattle.std.proofs.Common.{ℕ, eqb, not, List, Some, sym, ◌∙◌, ap, arith}
use Rattle.std.specs.Cmp.Lexicographic.{pointwise}
use Rattle.shard_columns.proofs.Searching.{absent-past, absent-at, different-text, equal-text, read, within-list}
use Rattle.shard_columns.proofs.search.find_word.Goals as goal

pub returns-then-place-len-clause-absent : goal.returns-then-place-len-clause-absent
returns-then-place-len-clause-absent c =
    absent-past c.args.words.now c.args.word.now c.count_before-place.result c.count_before-place.ensures.before (omega (arith, c.if-place-len.true, c.len.ensures))

pub returns-then-ne-clause-absent : goal.returns-then-ne-clause-absent
returns-then-ne-clause-absent c =
    let words = c.args.words.now in
    let word = c.args.word.now in
    let place = c.count_before-place.result in
    absent-at words word place c.requires c.count_before-place.ensures.before (within-list words place c.get.result.now c.get.ensures) (λ same.
    different-text c.get.result.now word (ap (λ (v : List ℕ). not (pointwise eqb v word)) (sym c.as_bytes.ensures.value) ∙ (sym c.ne.ensures ∙ c.if-ne.true)) (sym (read words place c.get.result.now word c.get.ensures) ∙ same))

pub returns-clause-found : goal.returns-clause-found
returns-clause-found c =
    let word = c.args.word.now in
    c.get.ensures ∙ ap Some (equal-text c.get.result.now word (ap (λ (v : List ℕ). not (pointwise eqb v word)) (sym c.as_bytes.ensures.value) ∙ (sym c.ne.ensures ∙ c.if-ne.false)))
