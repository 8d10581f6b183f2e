-- A date histogram that is made for a mapping has a period and a zone that there are, hard bounds and a missing value that are
-- instants, and a field of dates.
use Rattle.std.proofs.Common.{◌≡◌, ℤ, true, List, sym, ◌∙◌, ap, subst}
use Rattle.std.specs.Prelude.{◌&&◌}
use Rattle.std.proofs.lemmas.Bool.{and_parts, and_from}
use Rattle.date_spec.specs.declared.period.Period.{Period}
use Rattle.agg_model.specs.declared.aggregation.Kind.{Kind}
use Rattle.agg_model.specs.declared.aggregation.Spacing.{Spacing}
use Rattle.agg_model.specs.declared.aggregation.Spacing.TheVariants.{Numbers, Dates}
use Rattle.agg_model.specs.declared.mapping.Mapping.{Mapping}
use Rattle.agg_model.specs.Options.{HistogramOptions, histogram_kind}
use Rattle.agg_evaluation.specs.SearchFits.{histogram_made, is_date_field, is_divided_field, spacing_made}
use Rattle.agg_evaluation.specs.Spacings.{are_instants, is_period, is_zone}
use Rattle.shard_columns.specs.Built.{IsShardOf}
use Rattle.shard_columns.specs.Columns.{Columns}
use Rattle.histogram_agg.proofs.RowKeys.{with_spacing}
use Rattle.date_agg.specs.declared.prepared.PreparedDateHistogram.{PreparedDateHistogram}
use Rattle.date_agg.specs.Codes.{IsDated, IsDatedAt, IsReady, is_dated}
use Rattle.date_agg.specs.Dates.{HoldsDates, IsOverDates}
use Rattle.date_agg.proofs.Fields.{date-field, date-missing}

module _ (m : Mapping) (children : List Kind) (h : HistogramOptions) (p : Period) (zone : ℤ) (is : h.spacing ≡ Dates p zone) (made : histogram_made m children h ≡ true) where
  divided : is_date_field m h.field h.missing ≡ true
  divided = ap (λ (s : Spacing). is_divided_field m s h.field h.missing) (sym is) ∙ (and_parts (is_divided_field m h.spacing h.field h.missing) _ made).0

  spaced : (is_period p && (is_zone zone && (are_instants h.extended && are_instants h.hard))) ≡ true
  spaced =
      ap (λ (s : Spacing). spacing_made s h.extended h.hard) (sym is)
      ∙ (and_parts (spacing_made h.spacing h.extended h.hard) _ (and_parts (is_divided_field m h.spacing h.field h.missing) _ made).1).0

  pub made-dated : is_dated p zone h.hard h.missing ≡ true
  made-dated =
      let period = and_parts (is_period p) (is_zone zone && (are_instants h.extended && are_instants h.hard)) spaced in
      let zoned = and_parts (is_zone zone) (are_instants h.extended && are_instants h.hard) period.1 in
      let hard = (and_parts (are_instants h.extended) (are_instants h.hard) zoned.1).1 in
      and_from (is_period p) _ period.0 (and_from (is_zone zone) _ zoned.0 (and_from (are_instants h.hard) _ hard (date-missing m h.field h.missing divided)))

pub made-dates : (m : Mapping) (shard : Columns) (children : List Kind) (h : HistogramOptions) (p : Period) (zone : ℤ) → h.spacing ≡ Dates p zone → IsShardOf m shard
    → histogram_made m children h ≡ true → HoldsDates shard h.field
made-dates m shard children h p zone is of made = date-field m h.field h.missing (divided m children h p zone is made) shard of

pub dated-kind : (h : HistogramOptions) → IsDatedAt h.spacing h.hard h.missing → IsDated (histogram_kind h)
dated-kind h = elim h.spacing as (λ s. IsDatedAt s h.hard h.missing → IsDated (histogram_kind (with_spacing h s))) [
  | Numbers interval offset ↦ λ is. absurd is
  | Dates period zone ↦ λ is. is
]

over-kind : (shard : Columns) (h : HistogramOptions) → IsOverDates shard (histogram_kind h) → HoldsDates shard h.field
over-kind shard h = elim h.spacing as (λ s. IsOverDates shard (histogram_kind (with_spacing h s)) → HoldsDates shard h.field) [
  | Numbers interval offset ↦ λ is. is
  | Dates period zone ↦ λ is. is
]

-- what is prepared of a histogram over dates looks at dates
pub ready-dates : (shard : Columns) (kind : Kind) (p : PreparedDateHistogram) → IsReady kind p → IsOverDates shard kind → HoldsDates shard p.field
ready-dates shard kind p r over = subst (HoldsDates shard) (sym r.field_is) (over-kind shard r.options (subst (IsOverDates shard) r.kind_is over))
