-- The last code whose key does not lie behind the bound.
use Rattle.std.proofs.Common.{◌≡◌, ℤ, Option, Some, None, true, ◌∙◌, ap, arith, to_z, of_z, w64, ◌+ℤ◌}
use Rattle.std.specs.Prelude.{int_le, unwrap_or}
use Rattle.std.specs.Option.{option_map_or}
use Rattle.std.proofs.lemmas.Int.{ints}
use Rattle.date_spec.specs.declared.period.Period.{Period}
use Rattle.date_spec.specs.declared.range.TheConstants.{GREATEST_INSTANT}
use Rattle.date_spec.specs.Instants.{is_in_range}
use Rattle.date_spec.specs.Periods.{IsPeriod, IsZone, number_of}
use Rattle.date_periods.specs.Reach.{IsCode}
use Rattle.agg_model.specs.declared.aggregation.Spacing.TheVariants.{Dates}
use Rattle.agg_evaluation.specs.Spacings.{start_at}
use Rattle.agg_evaluation.proofs.SpacingLaws.{instant-is}
use Rattle.date_agg.proofs.Bounds.{at_most, last-at}
use Rattle.date_agg.proofs.preparing.last_code.Goals as goal

by_bound : (p : Period) (zone : ℤ) → IsPeriod p → IsZone zone → (bound : Option ℤ) → option_map_or is_in_range bound true ≡ true → (code : ℤ) → IsCode p zone code
    → int_le code (number_of p (unwrap_or bound GREATEST_INSTANT +ℤ zone)) ≡ option_map_or (λ greatest. int_le (start_at (Dates p zone) code) greatest) bound true
by_bound p zone h z None held code is = at_most code (number_of p (GREATEST_INSTANT +ℤ zone)) is.1
by_bound p zone h z (Some bound) held code is = last-at p zone h z bound (instant-is bound held) code is

pub returns-clause-codes : goal.returns-clause-codes
returns-clause-codes c code is-code =
    let p = c.args.period in
    let value = unwrap_or c.args.bound GREATEST_INSTANT in
    let local : to_z w64 (of_z w64 c.unwrap_or.result) +ℤ to_z w64 (of_z w64 c.args.zone) ≡ value +ℤ c.args.zone = omega (arith, ints, c.unwrap_or.ensures) in
    let same : to_z w64 (of_z w64 c.code_of.result) ≡ c.code_of.result = omega (arith, ints) in
    ap (λ (z : ℤ). int_le code z) (same ∙ c.code_of.ensures.number ∙ ap (number_of p) local)
    ∙ by_bound p c.args.zone c.requires.period c.requires.zone c.args.bound c.requires.bound code is-code
