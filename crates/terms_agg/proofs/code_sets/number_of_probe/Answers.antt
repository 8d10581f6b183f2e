use Rattle.std.proofs.Common.{◌≡◌, refl, None, Some, sym, ◌∙◌, ap, ⊎_elim, to_z, of_z, rules}
use mir.Syntax.{w128}
use Rattle.std.proofs.lemmas.Int.{to_z-of_z}
use Rattle.shard_columns.specs.Dictionary.{words_of}
use Rattle.terms_agg.specs.declared.content.Content.TheVariants as hold
use Rattle.terms_agg.specs.Lent.{flag_number}
use Rattle.terms_agg.proofs.Standing.{differs, standing, stands-other, stands-whole, stands-flag, flag-byte}
use Rattle.terms_agg.proofs.code_sets.number_of_probe.Goals as goal

pub returns-in-Whole : goal.returns-in-Whole
returns-in-Whole c =
    let words = words_of c.args.field c.args.shard.now.rows in
    let same : to_z w128 (of_z w128 c.in-Whole.number) ≡ c.in-Whole.number = to_z-of_z w128 c.in-Whole.number (search rules) in
    standing _ hold.Wholes words _ _ _ _ (sym c.content_of_field.ensures.content ∙ c.in-Wholes.is) c.in-Whole.is (ap Some same) (stands-whole words c.in-Whole.number)

pub returns-in-Flag : goal.returns-in-Flag
returns-in-Flag c =
    let words = words_of c.args.field c.args.shard.now.rows in
    standing _ hold.Wholes words _ c.args.probe.now _ None (sym c.content_of_field.ensures.content ∙ c.in-Wholes.is) refl refl
    (stands-other hold.Wholes words c.args.probe.now (⊎_elim (λ h. ap (differs hold.Wholes) h.1) (λ h. ap (differs hold.Wholes) h.1) c.in-Flag.is))

pub returns-in-Flag-2 : goal.returns-in-Flag-2
returns-in-Flag-2 c =
    let words = words_of c.args.field c.args.shard.now.rows in
    standing _ hold.Wholes words _ c.args.probe.now _ None (sym c.content_of_field.ensures.content ∙ c.in-Wholes.is) refl refl
    (stands-other hold.Wholes words c.args.probe.now (⊎_elim (λ h. ap (differs hold.Wholes) h.1) (λ h. ap (differs hold.Wholes) h.1) c.in-Flag.is))

pub returns-in-Flag-probe : goal.returns-in-Flag-probe
returns-in-Flag-probe c =
    let words = words_of c.args.field c.args.shard.now.rows in
    let same : to_z w128 (of_z w128 c.from.result) ≡ flag_number c.in-Flag-probe.flag = to_z-of_z w128 c.from.result (search rules) ∙ (c.from.ensures ∙ flag-byte c.in-Flag-probe.flag) in
    standing _ hold.Flags words _ _ _ _ (sym c.content_of_field.ensures.content ∙ c.in-Flags.is) c.in-Flag-probe.is (ap Some same) (stands-flag words c.in-Flag-probe.flag)

pub returns-in-Whole-probe : goal.returns-in-Whole-probe
returns-in-Whole-probe c =
    let words = words_of c.args.field c.args.shard.now.rows in
    standing _ hold.Flags words _ c.args.probe.now _ None (sym c.content_of_field.ensures.content ∙ c.in-Flags.is) refl refl
    (stands-other hold.Flags words c.args.probe.now (⊎_elim (λ h. ap (differs hold.Flags) h.1) (λ h. ap (differs hold.Flags) h.1) c.in-Whole-probe.is))

pub returns-in-Whole-probe-2 : goal.returns-in-Whole-probe-2
returns-in-Whole-probe-2 c =
    let words = words_of c.args.field c.args.shard.now.rows in
    standing _ hold.Flags words _ c.args.probe.now _ None (sym c.content_of_field.ensures.content ∙ c.in-Flags.is) refl refl
    (stands-other hold.Flags words c.args.probe.now (⊎_elim (λ h. ap (differs hold.Flags) h.1) (λ h. ap (differs hold.Flags) h.1) c.in-Whole-probe.is))
