use Rattle.std.proofs.Common.{rules, refl, ap, ⊎_elim}
use Rattle.agg_model.specs.declared.row.Scalar.TheVariants as scalar
use Rattle.agg_model.specs.declared.query.Probe.TheVariants as probe
use Rattle.shard_columns.specs.Cell.{scalar_of}
use Rattle.terms_agg.proofs.Probing.{answered}
use Rattle.terms_agg.proofs.included.is_value_of.Goals as goal

pub returns-in-Whole-probe : goal.returns-in-Whole-probe
returns-in-Whole-probe c = answered c.args.cell c.args.probe.now (scalar.Whole c.in-Whole.value) (probe.Whole c.in-Whole-probe.wanted) _ (ap scalar_of c.in-Whole.is) c.in-Whole-probe.is (search rules)

pub returns-in-Flag-probe : goal.returns-in-Flag-probe
returns-in-Flag-probe c =
    ⊎_elim (λ h. answered c.args.cell c.args.probe.now (scalar.Whole c.in-Whole.value) (probe.Flag h.0) _ (ap scalar_of c.in-Whole.is) h.1 refl)
    (λ h. answered c.args.cell c.args.probe.now (scalar.Whole c.in-Whole.value) (probe.Word h.0) _ (ap scalar_of c.in-Whole.is) h.1 refl) c.in-Flag-probe.is

pub returns-in-Flag-probe-3 : goal.returns-in-Flag-probe-3
returns-in-Flag-probe-3 c =
    ⊎_elim (λ h. answered c.args.cell c.args.probe.now (scalar.Whole c.in-Whole.value) (probe.Flag h.0) _ (ap scalar_of c.in-Whole.is) h.1 refl)
    (λ h. answered c.args.cell c.args.probe.now (scalar.Whole c.in-Whole.value) (probe.Word h.0) _ (ap scalar_of c.in-Whole.is) h.1 refl) c.in-Flag-probe.is

pub returns-in-Flag-probe-2 : goal.returns-in-Flag-probe-2
returns-in-Flag-probe-2 c = answered c.args.cell c.args.probe.now (scalar.Flag c.in-Flag.value) (probe.Flag c.in-Flag-probe-2.wanted) _ (ap scalar_of c.in-Flag.is) c.in-Flag-probe-2.is (search rules)

pub returns-in-Whole-probe-2 : goal.returns-in-Whole-probe-2
returns-in-Whole-probe-2 c =
    ⊎_elim (λ h. answered c.args.cell c.args.probe.now (scalar.Flag c.in-Flag.value) (probe.Whole h.0) _ (ap scalar_of c.in-Flag.is) h.1 refl)
    (λ h. answered c.args.cell c.args.probe.now (scalar.Flag c.in-Flag.value) (probe.Word h.0) _ (ap scalar_of c.in-Flag.is) h.1 refl) c.in-Whole-probe-2.is

pub returns-in-Whole-probe-2-2 : goal.returns-in-Whole-probe-2-2
returns-in-Whole-probe-2-2 c =
    ⊎_elim (λ h. answered c.args.cell c.args.probe.now (scalar.Flag c.in-Flag.value) (probe.Whole h.0) _ (ap scalar_of c.in-Flag.is) h.1 refl)
    (λ h. answered c.args.cell c.args.probe.now (scalar.Flag c.in-Flag.value) (probe.Word h.0) _ (ap scalar_of c.in-Flag.is) h.1 refl) c.in-Whole-probe-2.is

pub returns-in-Word-probe : goal.returns-in-Word-probe
returns-in-Word-probe c = answered c.args.cell c.args.probe.now (scalar.Word c.in-Word.value.now) (probe.Word c.in-Word-probe.wanted) _ (ap scalar_of c.in-Word.is) c.in-Word-probe.is (search rules)

pub returns-in-Whole-probe-3 : goal.returns-in-Whole-probe-3
returns-in-Whole-probe-3 c =
    ⊎_elim (λ h. answered c.args.cell c.args.probe.now (scalar.Word c.in-Word.value.now) (probe.Whole h.0) _ (ap scalar_of c.in-Word.is) h.1 refl)
    (λ h. answered c.args.cell c.args.probe.now (scalar.Word c.in-Word.value.now) (probe.Flag h.0) _ (ap scalar_of c.in-Word.is) h.1 refl) c.in-Whole-probe-3.is

pub returns-in-Whole-probe-3-2 : goal.returns-in-Whole-probe-3-2
returns-in-Whole-probe-3-2 c =
    ⊎_elim (λ h. answered c.args.cell c.args.probe.now (scalar.Word c.in-Word.value.now) (probe.Whole h.0) _ (ap scalar_of c.in-Word.is) h.1 refl)
    (λ h. answered c.args.cell c.args.probe.now (scalar.Word c.in-Word.value.now) (probe.Flag h.0) _ (ap scalar_of c.in-Word.is) h.1 refl) c.in-Whole-probe-3.is
