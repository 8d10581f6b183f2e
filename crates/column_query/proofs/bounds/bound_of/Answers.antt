use Rattle.std.proofs.Common.{refl, ◌∙◌, ap, rules, subst, ⊎_elim}
use mir.Syntax.{w128}
use Rattle.std.proofs.lemmas.Int.{to_z-of_z}
use Rattle.std.specs.declared.cmp.Ordering.TheVariants.{Less, Greater}
use Rattle.agg_model.specs.declared.query.Probe.TheVariants as probe
use Rattle.column_query.specs.declared.content.Content.TheVariants.{Wholes, Words, Flags}
use Rattle.column_query.specs.Numbers.{Holds, flag_number}
use Rattle.column_query.proofs.Standing.{differs, order_apart, number-bounds, answer-bounds, whole-ordered, flag-ordered, flag-number}
use Rattle.column_query.proofs.bounds.bound_of.Goals as goal

pub returns-in-Whole : goal.returns-in-Whole
returns-in-Whole c =
    let rows = c.args.shard.now.rows in
    number-bounds rows c.args.field c.args.test.now (probe.Whole c.in-Whole.number) c.in-Whole.number _ c.in-Whole.is
    (to_z-of_z w128 c.in-Whole.number (search rules)) (whole-ordered rows c.args.field c.in-Whole.number (subst (Holds rows c.args.field) c.in-Wholes.is c.content_of_field.ensures.holds))

pub returns-in-Flag : goal.returns-in-Flag
returns-in-Flag c =
    let rows = c.args.shard.now.rows in
    answer-bounds rows c.args.field Wholes c.args.test.now Less _ (subst (Holds rows c.args.field) c.in-Wholes.is c.content_of_field.ensures.holds)
    (⊎_elim (λ h. ap (differs Wholes) h.1) (λ h. ap (differs Wholes) h.1) c.in-Flag.is) refl c.allows.ensures

pub returns-in-Whole-value : goal.returns-in-Whole-value
returns-in-Whole-value c =
    let rows = c.args.shard.now.rows in
    answer-bounds rows c.args.field Flags c.args.test.now Greater _ (subst (Holds rows c.args.field) c.in-Flags.is c.content_of_field.ensures.holds)
    (ap (differs Flags) c.in-Whole-value.is) (ap (order_apart Flags) c.in-Whole-value.is) c.allows-in-Whole-value.ensures

pub returns-in-Flag-value : goal.returns-in-Flag-value
returns-in-Flag-value c =
    let rows = c.args.shard.now.rows in
    number-bounds rows c.args.field c.args.test.now (probe.Flag c.in-Flag-value.flag) (flag_number c.in-Flag-value.flag) _ c.in-Flag-value.is
    (to_z-of_z w128 c.from.result (search rules) ∙ (c.from.ensures ∙ flag-number c.in-Flag-value.flag)) (flag-ordered rows c.args.field c.in-Flag-value.flag (subst (Holds rows c.args.field) c.in-Flags.is c.content_of_field.ensures.holds))

pub returns-in-Word : goal.returns-in-Word
returns-in-Word c =
    let rows = c.args.shard.now.rows in
    answer-bounds rows c.args.field Flags c.args.test.now Less _ (subst (Holds rows c.args.field) c.in-Flags.is c.content_of_field.ensures.holds)
    (ap (differs Flags) c.in-Word.is) (ap (order_apart Flags) c.in-Word.is) c.allows-in-Word.ensures

pub returns-in-Whole-value-2 : goal.returns-in-Whole-value-2
returns-in-Whole-value-2 c =
    let rows = c.args.shard.now.rows in
    answer-bounds rows c.args.field Words c.args.test.now Greater _ (subst (Holds rows c.args.field) c.in-Words.is c.content_of_field.ensures.holds)
    (⊎_elim (λ h. ap (differs Words) h.1) (λ h. ap (differs Words) h.1) c.in-Whole-value-2.is) refl c.allows-in-Whole-value-2.ensures
