-- Over dates the number is that of the first instant, where the value is before it.
use Rattle.std.proofs.Common.{◌≡◌, ◌∙◌, ◌<◌, ◌^◌, ap, sym, subst, arith, rules}
use Rattle.std.specs.Prelude.{ℤ, ◌+ℤ◌}
use Rattle.std.specs.Int.{int_max}
use Rattle.std.proofs.lemmas.Grind.{common_steps}
use Rattle.std.proofs.lemmas.Int.{ints, to_z-of_z}
use mir.Syntax.{w64, w128}
use mir.Val.{SFits, to_z, of_z}
use Rattle.date_spec.specs.declared.range.TheConstants.{LEAST_INSTANT}
use Rattle.date_spec.specs.Periods.{IsInstant, number_of}
use Rattle.date_periods.specs.Reach.{IsCode}
use Rattle.agg_model.specs.declared.aggregation.Spacing.TheVariants.{Numbers, Dates}
use Rattle.agg_evaluation.specs.Conditions.{is_spaced}
use Rattle.agg_evaluation.specs.Finishable.{is_near}
use Rattle.agg_evaluation.specs.Spacings.{number_at}
use Rattle.final_reduce.specs.Steps.{IsNearNumber}
use Rattle.final_reduce.proofs.Grids.{begins-near, first-number, instant-held, near-dates, spacing-is}
use Rattle.final_reduce.proofs.grid.number_at.Goals as goal

pub code_of-requires-clause-instant : goal.code_of-requires-clause-instant
code_of-requires-clause-instant c =
    let d = c.in-Dates in
    let near = sym (ap (λ s. is_near s c.args.value) d.is) ∙ c.requires.near in
    let least : to_z w128 (of_z w128 c.from-in-Dates.result) ≡ LEAST_INSTANT = omega (arith, ints, c.from-in-Dates.ensures) in
    let value = to_z-of_z w128 c.args.value c.ranges.value in
    let max : c.max-instant.result ≡ int_max c.args.value LEAST_INSTANT = c.max-instant.ensures.value ∙ (λ i. int_max (value i) (least i)) in
    let held = instant-held c.args.value c.max-instant.result max (near-dates d.period d.zone c.args.value near).1 in
    let low = held.0 in
    let high = held.1 in
    let same : to_z w64 (of_z w64 (to_z w128 (of_z w128 c.max-instant.result))) ≡ c.max-instant.result = omega (arith, ints, low, high) in
    subst IsInstant (sym same) held

pub returns-in-Numbers-clause-near : goal.returns-in-Numbers-clause-near
returns-in-Numbers-clause-near c =
    let n = c.in-Numbers in
    let g = c.args.grid in
    let near = sym (ap (λ s. is_near s c.args.value) n.is) ∙ c.requires.near in
    let is = spacing-is (Numbers n.interval n.offset) g.extended g.hard (sym (ap (λ s. is_spaced s g.extended g.hard) n.is) ∙ c.requires.spaced) in
    let fits : n.interval < 2 ^ 64 = search rules in
    let number : to_z w128 (of_z w128 c.div_euclid.result) ≡ number_at (Numbers n.interval n.offset) c.args.value = first_of (search rules, grind (arith, common_steps)) in
    subst (λ s. IsNearNumber s (to_z w128 (of_z w128 c.div_euclid.result))) (sym n.is) (begins-near n.interval n.offset c.args.value (to_z w128 (of_z w128 c.div_euclid.result)) is fits near number)

pub returns-in-Dates-clause-number : goal.returns-in-Dates-clause-number
returns-in-Dates-clause-number c =
    let d = c.in-Dates in
    let g = c.args.grid in
    let near = sym (ap (λ s. is_near s c.args.value) d.is) ∙ c.requires.near in
    let is = spacing-is (Dates d.period d.zone) g.extended g.hard (sym (ap (λ s. is_spaced s g.extended g.hard) d.is) ∙ c.requires.spaced) in
    let least : to_z w128 (of_z w128 c.from-in-Dates.result) ≡ LEAST_INSTANT = omega (arith, ints, c.from-in-Dates.ensures) in
    let value = to_z-of_z w128 c.args.value c.ranges.value in
    let max : c.max-instant.result ≡ int_max c.args.value LEAST_INSTANT = c.max-instant.ensures.value ∙ (λ i. int_max (value i) (least i)) in
    let held = instant-held c.args.value c.max-instant.result max (near-dates d.period d.zone c.args.value near).1 in
    let low = held.0 in
    let high = held.1 in
    let instant : to_z w64 (of_z w64 (to_z w128 (of_z w128 c.max-instant.result))) ≡ c.max-instant.result = omega (arith, ints, low, high) in
    let fits : SFits w64 d.zone = search rules in
    let zone = to_z-of_z w64 d.zone fits in
    let code : to_z w128 (of_z w128 c.from-in-Dates-2.result) ≡ c.code_of.result = omega (arith, ints, c.from-in-Dates-2.ensures) in
    code ∙ c.code_of.ensures.number ∙ (λ i. number_of d.period ((instant ∙ max) i +ℤ zone i))
    ∙ first-number d.period d.zone c.args.value is near ∙ ap (λ s. number_at s c.args.value) (sym d.is)

pub returns-in-Dates-clause-near : goal.returns-in-Dates-clause-near
returns-in-Dates-clause-near c =
    let d = c.in-Dates in
    let fits : SFits w64 d.zone = search rules in
    let code : to_z w128 (of_z w128 c.from-in-Dates-2.result) ≡ c.code_of.result = omega (arith, ints, c.from-in-Dates-2.ensures) in
    let held = subst (λ (z : ℤ). IsCode d.period z c.code_of.result) (to_z-of_z w64 d.zone fits) c.code_of.ensures.code in
    let near : IsNearNumber (Dates d.period d.zone) c.code_of.result = (held, (omega (arith, ints), omega (arith, ints))) in
    subst (λ s. IsNearNumber s (to_z w128 (of_z w128 c.from-in-Dates-2.result))) (sym d.is) (subst (IsNearNumber (Dates d.period d.zone)) (sym code) near)
