use Rattle.std.proofs.Common.{◌≡◌, ℤ, Some, pos, subst, sym, ◌∙◌, ap, ⊎_elim, to_z, of_z, rules}
use mir.Syntax.{w64, w128}
use Rattle.std.proofs.lemmas.Int.{to_z-of_z}
use Rattle.agg_model.specs.declared.query.Probe.{Probe}
use Rattle.agg_model.specs.declared.query.Probe.TheVariants as probe
use Rattle.column_query.specs.declared.content.Content.TheVariants.{Wholes, Flags}
use Rattle.column_query.specs.Numbers.{Holds, StandsFor, flag_number}
use Rattle.column_query.proofs.Standing.{differs, none-stands, ordered-stands, whole-stands, flag-ordered, flag-number}
use Rattle.column_query.proofs.Widths.{held-fits}
use Rattle.column_query.proofs.numbers.number_of_probe.Goals as goal

pub returns-in-Whole : goal.returns-in-Whole
returns-in-Whole c =
    let rows = c.args.shard.now.rows in
    let number = to_z w128 (of_z w128 c.in-Whole.number) in
    let same : number ≡ c.in-Whole.number = to_z-of_z w128 c.in-Whole.number (search rules) in
    subst (λ (p : Probe). StandsFor rows c.args.field p c.in_64_bits.result) (ap probe.Whole same ∙ sym c.in-Whole.is)
    (whole-stands rows c.args.field number c.in_64_bits.result c.in_64_bits.ensures.number c.in_64_bits.ensures.outside (held-fits c.args.shard.now c.requires.built c.args.field)
    (subst (Holds rows c.args.field) c.in-Wholes.is c.content_of_field.ensures.holds))

pub returns-in-Flag : goal.returns-in-Flag
returns-in-Flag c =
    none-stands c.args.shard.now.rows c.args.field Wholes c.args.probe.now (⊎_elim (λ h. ap (differs Wholes) h.1) (λ h. ap (differs Wholes) h.1) c.in-Flag.is) (subst (Holds c.args.shard.now.rows c.args.field) c.in-Wholes.is c.content_of_field.ensures.holds)

pub returns-in-Flag-2 : goal.returns-in-Flag-2
returns-in-Flag-2 c =
    none-stands c.args.shard.now.rows c.args.field Wholes c.args.probe.now (⊎_elim (λ h. ap (differs Wholes) h.1) (λ h. ap (differs Wholes) h.1) c.in-Flag.is) (subst (Holds c.args.shard.now.rows c.args.field) c.in-Wholes.is c.content_of_field.ensures.holds)

pub returns-in-Flag-probe : goal.returns-in-Flag-probe
returns-in-Flag-probe c =
    let rows = c.args.shard.now.rows in
    let same : to_z w64 (of_z w64 c.from.result) ≡ flag_number c.in-Flag-probe.flag = to_z-of_z w64 c.from.result (search rules) ∙ (c.from.ensures ∙ flag-number c.in-Flag-probe.flag) in
    subst (λ (p : Probe). StandsFor rows c.args.field p (Some (to_z w64 (of_z w64 c.from.result)))) (sym c.in-Flag-probe.is)
    (subst (λ (n : ℤ). StandsFor rows c.args.field (probe.Flag c.in-Flag-probe.flag) (Some n)) (sym same)
    (ordered-stands rows c.args.field (probe.Flag c.in-Flag-probe.flag) (flag_number c.in-Flag-probe.flag) (flag-ordered rows c.args.field c.in-Flag-probe.flag (subst (Holds rows c.args.field) c.in-Flags.is c.content_of_field.ensures.holds))))

pub returns-in-Whole-probe : goal.returns-in-Whole-probe
returns-in-Whole-probe c =
    none-stands c.args.shard.now.rows c.args.field Flags c.args.probe.now (⊎_elim (λ h. ap (differs Flags) h.1) (λ h. ap (differs Flags) h.1) c.in-Whole-probe.is) (subst (Holds c.args.shard.now.rows c.args.field) c.in-Flags.is c.content_of_field.ensures.holds)

pub returns-in-Whole-probe-2 : goal.returns-in-Whole-probe-2
returns-in-Whole-probe-2 c =
    none-stands c.args.shard.now.rows c.args.field Flags c.args.probe.now (⊎_elim (λ h. ap (differs Flags) h.1) (λ h. ap (differs Flags) h.1) c.in-Whole-probe.is) (subst (Holds c.args.shard.now.rows c.args.field) c.in-Flags.is c.content_of_field.ensures.holds)

pub returns-in-Some : goal.returns-in-Some
returns-in-Some c =
    let rows = c.args.shard.now.rows in
    let same : to_z w64 (of_z w64 c.from-in-Some.result) ≡ pos c.in-Some.place = to_z-of_z w64 c.from-in-Some.result (search rules) ∙ c.from-in-Some.ensures in
    subst (λ (n : ℤ). StandsFor rows c.args.field c.args.probe.now (Some n)) (sym same) c.in-Some.ensures

pub returns-in-None : goal.returns-in-None
returns-in-None c = c.in-None.ensures
