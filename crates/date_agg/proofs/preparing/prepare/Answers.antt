use Rattle.std.proofs.Common.{◌≡◌, refl, ℤ, true, sym, ◌∙◌, ap, subst, arith, to_z, of_z, w64}
use Rattle.std.specs.Prelude.{◌&&◌, int_le}
use Rattle.std.specs.Option.{option_map_or}
use Rattle.std.proofs.lemmas.Bool.{and_parts}
use Rattle.std.proofs.lemmas.Int.{ints}
use Rattle.date_spec.specs.declared.period.Period.{Period}
use Rattle.date_spec.specs.Instants.{is_in_range}
use Rattle.agg_model.specs.declared.aggregation.Bounds.{Bounds}
use Rattle.agg_model.specs.declared.aggregation.Kind.TheVariants as kind
use Rattle.agg_model.specs.declared.aggregation.Spacing.TheVariants.{Dates}
use Rattle.agg_model.specs.declared.mapping.FieldKind.TheVariants.{Date}
use Rattle.agg_model.specs.Options.{HistogramOptions}
use Rattle.agg_evaluation.specs.SearchFits.{is_missing}
use Rattle.agg_evaluation.specs.Spacings.{are_instants, is_period, is_zone}
use Rattle.agg_evaluation.proofs.SpacingLaws.{zone-is}
use Rattle.date_agg.specs.Codes.{IsDated, is_dated}
use Rattle.date_agg.proofs.Standing.{ready}
use Rattle.date_agg.proofs.preparing.prepare.Goals as goal

-- what is asked of the period, the zone, the bounds and the missing value
record Dated (period : Period) (zone : ℤ) (hard : Bounds) (missing : _) : Type 0 where
  period_is : is_period period ≡ true
  zone_is : is_zone zone ≡ true
  least_is : option_map_or is_in_range hard.min true ≡ true
  greatest_is : option_map_or is_in_range hard.max true ≡ true
  missing_is : is_missing Date missing ≡ true

dated : (period : Period) (zone : ℤ) (hard : Bounds) (missing : _) → is_dated period zone hard missing ≡ true → Dated period zone hard missing
dated period zone hard missing h =
    let first = and_parts (is_period period) (is_zone zone && (are_instants hard && is_missing Date missing)) h in
    let second = and_parts (is_zone zone) (are_instants hard && is_missing Date missing) first.1 in
    let third = and_parts (are_instants hard) (is_missing Date missing) second.1 in
    let bounds = and_parts (option_map_or is_in_range hard.min true) (option_map_or is_in_range hard.max true) third.0 in
    record { period_is = first.0; zone_is = second.0; least_is = bounds.0; greatest_is = bounds.1; missing_is = third.1 }

pub last_code-last-requires-clause-bound : goal.last_code-last-requires-clause-bound
last_code-last-requires-clause-bound c = (dated c.in-DateHistogram.period c.in-DateHistogram.zone c.in-DateHistogram.hard c.in-DateHistogram.missing (subst IsDated c.in-DateHistogram.is c.requires)).greatest_is

pub missing_code-requires-clause-missing : goal.missing_code-requires-clause-missing
missing_code-requires-clause-missing c = (dated c.in-DateHistogram.period c.in-DateHistogram.zone c.in-DateHistogram.hard c.in-DateHistogram.missing (subst IsDated c.in-DateHistogram.is c.requires)).missing_is

pub invariant_of-result : goal.invariant_of-result
invariant_of-result c =
    let d = dated c.in-DateHistogram.period c.in-DateHistogram.zone c.in-DateHistogram.hard c.in-DateHistogram.missing (subst IsDated c.in-DateHistogram.is c.requires) in
    let zone = zone-is c.in-DateHistogram.zone d.zone_is in
    let low = c.first_code-first.ensures.low in
    let high = c.last_code-last.ensures.high in
    record { has_period = d.period_is; has_zone = (omega (arith, ints, zone.0, zone.1), omega (arith, ints, zone.0, zone.1)); low = omega (arith, ints, low); high = omega (arith, ints, high) }

pub returns : goal.returns
returns c =
    let d = dated c.in-DateHistogram.period c.in-DateHistogram.zone c.in-DateHistogram.hard c.in-DateHistogram.missing (subst IsDated c.in-DateHistogram.is c.requires) in
    let held = zone-is c.in-DateHistogram.zone d.zone_is in
    let zone : to_z w64 (of_z w64 c.in-DateHistogram.zone) ≡ c.in-DateHistogram.zone = omega (arith, ints, held.0, held.1) in
    let first : to_z w64 (of_z w64 c.first_code-first.result) ≡ c.first_code-first.result = omega (arith, ints) in
    let last : to_z w64 (of_z w64 c.last_code-last.result) ≡ c.last_code-last.result = omega (arith, ints) in
    let options : HistogramOptions = record {
      field = c.in-DateHistogram.field;
      spacing = Dates c.in-DateHistogram.period (to_z w64 (of_z w64 c.in-DateHistogram.zone));
      min_doc_count = c.in-DateHistogram.min_doc_count;
      extended = c.in-DateHistogram.extended;
      hard = c.in-DateHistogram.hard;
      keyed = c.in-DateHistogram.keyed;
      order = c.in-DateHistogram.order;
      missing = c.in-DateHistogram.missing;
    } in
    ready _ _ options
    (c.in-DateHistogram.is
    ∙ ap (λ (z : ℤ). kind.DateHistogram options.field c.in-DateHistogram.period z options.min_doc_count options.extended options.hard options.keyed options.order options.missing) (sym zone)) refl refl
    (λ code is. (λ i. int_le (first i) code && int_le code (last i)) ∙ (λ i. c.first_code-first.ensures.codes code is i && c.last_code-last.ensures.codes code is i))
    c.missing_code.ensures d.missing_is
