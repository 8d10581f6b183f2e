-- Codes of a prepared date histogram stand for the keys of values.
use Rattle.std.specs.Prelude.{◌≡◌, ℤ, pos, ◌^◌, ◌+ℤ◌, ◌*ℤ◌, ◌≤ℤ◌, int_le, Bool, true, if◌then◌else◌, List, map, filter, flat_map, Option, option_to_list}
use Rattle.std.proofs.Common.{◌∙◌, ap, arith, sym}
use Rattle.std.proofs.lemmas.Bool.{and_parts}
use Rattle.std.proofs.lemmas.Int.{ints}
use Rattle.std.specs.List.{AllByRecursion}
use Rattle.date_spec.specs.Periods.{IsInstant}
use Rattle.date_periods.specs.Reach.{IsCode}
use Rattle.agg_model.specs.declared.aggregation.Kind.{Kind}
use Rattle.agg_model.specs.declared.aggregation.Spacing.{Spacing}
use Rattle.agg_model.specs.declared.aggregation.Spacing.TheVariants.{Dates}
use Rattle.agg_model.specs.declared.key.Key.{Key}
use Rattle.agg_model.specs.declared.key.Key.TheVariants.{Whole}
use Rattle.agg_model.specs.declared.mapping.FieldKind.TheVariants.{Date}
use Rattle.agg_model.specs.declared.row.Scalar.{Scalar}
use Rattle.agg_model.specs.Options.{HistogramOptions, histogram_kind}
use Rattle.agg_evaluation.specs.DocumentFits.{ascend}
use Rattle.agg_evaluation.specs.Keys.{distinct_keys, interval_key, is_between, or_missing}
use Rattle.agg_evaluation.specs.SearchFits.{is_missing}
use Rattle.agg_evaluation.proofs.SpacingLaws.{period-is}
use Rattle.shard_columns.specs.Lent.{wholes_in}
use Rattle.histogram_agg.specs.RowCodes.{kept_codes, row_codes}
use Rattle.histogram_agg.proofs.RowKeys as keys_by
use Rattle.date_agg.specs.declared.prepared.PreparedDateHistogram.{PreparedDateHistogram}
use Rattle.date_agg.specs.Codes.{IsReady, is_code, key_of, number_at, start_at}
use Rattle.date_agg.proofs.Fields.{missing-ascend, missing-instants}
use Rattle.date_agg.proofs.Instants.{apart, coded, rising}

from_le : (a b : ℤ) → int_le a b ≡ true → a ≤ℤ b
from_le a b h = omega (arith, ints)

le-le : (a b c : ℤ) → a ≤ℤ b → b ≤ℤ c → a ≤ℤ c
le-le a b c h k = omega (arith, ints)

-- what is kept is the number of a period from that of the first instant to that of the last
pub code-is : (p : PreparedDateHistogram) (c : ℤ) → is_code p c ≡ true → IsCode p.period p.zone c
code-is p c h =
    let parts = and_parts (int_le p.first c) (int_le c p.last) h in
    (le-le _ p.first c p.low (from_le p.first c parts.0), le-le c p.last _ (from_le c p.last parts.1) p.high)

module _ (p : PreparedDateHistogram) (within : Key → Bool) (same : (c : ℤ) → IsCode p.period p.zone c → is_code p c ≡ within (Whole (start_at p c))) where
  abbrev spacing : Spacing
  spacing = Dates p.period p.zone

  stands : (c : ℤ) → IsCode p.period p.zone c → is_code p c ≡ true → key_of p c ≡ Whole (start_at p c)
  stands c is e = ap (λ (b : Bool). Whole (if b then start_at p c else ((c *ℤ pos (2 ^ 64)) +ℤ pos (2 ^ 63)))) e

  pub value-keys : (vs : List Scalar) → ascend vs ≡ true → AllByRecursion IsInstant (wholes_in vs)
      → map (key_of p) (kept_codes (number_at p) (is_code p) (wholes_in vs)) ≡ filter within (distinct_keys (flat_map (interval_key spacing) vs))
  value-keys vs h are =
      keys_by.value-keys spacing IsInstant (IsCode p.period p.zone) (coded p.period p.zone (period-is p.period p.has_period) p.has_zone) (rising p.period p.zone (period-is p.period p.has_period) p.has_zone)
      (λ c d is-c is-d less. apart p.period p.zone (period-is p.period p.has_period) p.has_zone c d is-c less) within (is_code p) (key_of p) same stands vs h are

  pub row-keys : (missing : Option ℤ) (stands_in : Option Scalar) → map (key_of p) (option_to_list missing) ≡ filter within (distinct_keys (flat_map (interval_key spacing) (option_to_list stands_in)))
      → (vs : List Scalar) → ascend vs ≡ true → AllByRecursion IsInstant (wholes_in vs)
      → map (key_of p) (row_codes missing (number_at p) (is_code p) vs) ≡ filter within (distinct_keys (flat_map (interval_key spacing) (or_missing stands_in vs)))
  row-keys missing stands_in is vs h are =
      keys_by.row-keys spacing IsInstant (IsCode p.period p.zone) (coded p.period p.zone (period-is p.period p.has_period) p.has_zone) (rising p.period p.zone (period-is p.period p.has_period) p.has_zone)
      (λ c d is-c is-d less. apart p.period p.zone (period-is p.period p.has_period) p.has_zone c d is-c less) within (is_code p) (key_of p) same stands missing stands_in is vs h are

-- a prepared form whose codes are those within the hard bounds, and that has the code of what stands for a missing value
pub ready : (kind : Kind) (p : PreparedDateHistogram) (options : HistogramOptions) → kind ≡ histogram_kind options → p.field ≡ options.field → options.spacing ≡ Dates p.period p.zone
    → ((c : ℤ) → IsCode p.period p.zone c → is_code p c ≡ is_between options.hard (Whole (start_at p c)))
    → option_to_list p.missing ≡ kept_codes (number_at p) (is_code p) (wholes_in (option_to_list options.missing)) → is_missing Date options.missing ≡ true → IsReady kind p
ready kind p options kind_is field_is spacing_is codes_are missing_is dated = record {
  options = options;
  kind_is = kind_is;
  field_is = field_is;
  spacing_is = spacing_is;
  codes_are = codes_are;
  missing =
      ap (λ (cs : List ℤ). map (key_of p) cs) missing_is
      ∙ value-keys p (is_between options.hard) codes_are (option_to_list options.missing) (missing-ascend options.missing) (missing-instants options.missing dated)
      ∙ (λ i. filter (is_between options.hard) (distinct_keys (flat_map (interval_key (sym spacing_is i)) (option_to_list options.missing))));
}
