use Rattle.std.proofs.Common.{◌≡◌, ℕ, List, Some, pos, subst, sym, ◌∙◌, ap, ⊎_elim, slice_get}
use Rattle.std.specs.Prelude.{IfSome, IfNone, option_map}
use Rattle.agg_model.specs.declared.query.Probe.{Probe}
use Rattle.shard_columns.specs.Dictionary.{words_of, NoRowHas}
use Rattle.terms_agg.specs.declared.content.Content.TheVariants as hold
use Rattle.terms_agg.specs.Prepared.{StandsFor}
use Rattle.terms_agg.proofs.Standing.{differs, stands-other, stands-named}
use Rattle.terms_agg.proofs.code_sets.ordinal_of_probe.Goals as goal

pub returns-in-Word : goal.returns-in-Word
returns-in-Word c =
    let rows = c.args.shard.now.rows in
    let ordinal = c.find_word.result in
    let word : c.as_bytes.result.now ≡ c.in-Word.word = c.as_bytes.ensures.value ∙ c.as_str.ensures in
    subst (λ (p : Probe). StandsFor hold.Words (words_of c.args.field rows) p (option_map pos ordinal)) (sym c.in-Word.is)
    (stands-named c.args.field rows c.in-Word.word ordinal
    (subst (λ (w : List ℕ). IfSome ordinal (λ o. slice_get (words_of c.args.field rows) o ≡ Some w)) word c.find_word.ensures.found)
    (subst (λ (w : List ℕ). IfNone ordinal (NoRowHas c.args.field w rows)) word c.find_word.ensures.absent))

pub returns-in-Whole : goal.returns-in-Whole
returns-in-Whole c =
    stands-other hold.Words (words_of c.args.field c.args.shard.now.rows) c.args.probe.now (⊎_elim (λ h. ap (differs hold.Words) h.1) (λ h. ap (differs hold.Words) h.1) c.in-Whole.is)

pub returns-in-Whole-2 : goal.returns-in-Whole-2
returns-in-Whole-2 c =
    stands-other hold.Words (words_of c.args.field c.args.shard.now.rows) c.args.probe.now (⊎_elim (λ h. ap (differs hold.Words) h.1) (λ h. ap (differs hold.Words) h.1) c.in-Whole.is)
