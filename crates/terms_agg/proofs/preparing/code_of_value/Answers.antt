use Rattle.std.proofs.Common.{ℕ, List, ◌∙◌, ap, subst, rules, pos, to_z, of_z}
use mir.Syntax.{w64}
use Rattle.std.proofs.lemmas.Int.{to_z-of_z}
use Rattle.shard_columns.specs.Dictionary.{NoRowHas}
use Rattle.terms_agg.specs.Codes.{content_in}
use Rattle.terms_agg.proofs.Coding.{other-coded}
use Rattle.terms_agg.proofs.preparing.code_of_value.Goals as goal

pub returns-in_ok-copy-in-None : goal.returns-in_ok-copy-in-None
returns-in_ok-copy-in-None c =
    let rows = c.args.shard.now.rows in
    other-coded (content_in c.args.shard.now c.args.field) c.args.field rows c.args.value.now c.in-Word.word (to_z w64 (of_z w64 c.from-in-None.result)) c.in_ok-copy-in-None.field-0 c.requires c.in-Word.is
    (to_z-of_z w64 c.from-in-None.result (search rules) ∙ (c.from-in-None.ensures ∙ ap pos c.words.ensures)) c.in_ok-copy-in-None.ensures
    (subst (λ (w : List ℕ). NoRowHas c.args.field w rows) (c.as_bytes.ensures.value ∙ c.as_str.ensures) c.in-None.ensures.absent)
