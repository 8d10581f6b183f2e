use Rattle.std.proofs.Common.{ℕ, List, Some, pos, subst, sym, ◌≡◌, ◌∙◌, ap, ⊎_elim, slice_get}
use Rattle.std.specs.Prelude.{IfSome, IfNone, option_map}
use Rattle.agg_model.specs.declared.query.Probe.{Probe}
use Rattle.shard_columns.specs.Dictionary.{words_of, NoRowHas}
use Rattle.column_query.specs.declared.content.Content.TheVariants.{Words}
use Rattle.column_query.specs.Numbers.{StandsFor}
use Rattle.column_query.proofs.Standing.{differs, none-stands, word-stands}
use Rattle.column_query.proofs.numbers.place_of_probe.Goals as goal

pub returns-in-Word : goal.returns-in-Word
returns-in-Word c =
    let rows = c.args.shard.now.rows in
    let place = c.find_word.result in
    let word : c.as_bytes.result.now ≡ c.in-Word.word = c.as_bytes.ensures.value ∙ c.as_str.ensures in
    subst (λ (p : Probe). StandsFor rows c.args.field p (option_map pos place)) (sym c.in-Word.is)
    (word-stands rows c.args.field c.in-Word.word place
    (subst (λ (w : List ℕ). IfSome place (λ k. slice_get (words_of c.args.field rows) k ≡ Some w)) word c.find_word.ensures.found)
    (subst (λ (w : List ℕ). IfNone place (NoRowHas c.args.field w rows)) word c.find_word.ensures.absent) c.requires)

pub returns-in-Whole : goal.returns-in-Whole
returns-in-Whole c =
    none-stands c.args.shard.now.rows c.args.field Words c.args.probe.now (⊎_elim (λ h. ap (differs Words) h.1) (λ h. ap (differs Words) h.1) c.in-Whole.is) c.requires

pub returns-in-Whole-2 : goal.returns-in-Whole-2
returns-in-Whole-2 c =
    none-stands c.args.shard.now.rows c.args.field Words c.args.probe.now (⊎_elim (λ h. ap (differs Words) h.1) (λ h. ap (differs Words) h.1) c.in-Whole.is) c.requires
