-- Aggregations whose keys can be counted in a shard, and what counts them (Elasticsearch Reference 8, 'Aggregations').
use Rattle.agg_model.specs.declared.aggregation.Kind.{Kind}
use Rattle.agg_model.specs.declared.aggregation.Spacing.TheVariants.{Numbers, Dates}
use Rattle.agg_model.specs.Options.{Options, options_of}
use Rattle.composite_agg.specs.Sources.{ArePositive}
use Rattle.date_agg.specs.Codes.{IsDated, IsReady as IsDateHistogramReady}
use Rattle.date_agg.specs.Dates.{HoldsDates, IsOverDates}
use Rattle.filters_agg.specs.Filtering.{IsFiltering}
use Rattle.filters_agg.specs.PreparedFilters.{IsReady as AreFiltersReady}
use Rattle.histogram_agg.specs.Codes.{IsSpaced, IsReady as IsHistogramReady}
use Rattle.shard_columns.specs.Columns.{Columns}
use Rattle.terms_agg.specs.Prepared.{IsTerms, IsReady as AreTermsReady}
use Rattle.agg_cost.specs.declared.key_counts.Counter.{Counter}
use Rattle.agg_cost.specs.declared.key_counts.Counter.TheVariants as counter

-- what the crate of the kind asks for
abbrev pub IsCountable : Columns → Kind → Type 0
IsCountable shard k = elim (options_of k) [
  | Options.Terms t ↦ IsTerms shard k
  | Options.Histogram h ↦ elim h.spacing [
    | Numbers interval offset ↦ IsSpaced k
    | Dates period zone ↦ IsDated k × IsOverDates shard k
  ]
  | Options.Filters names filters other ↦ IsFiltering k
  | Options.Filter query ↦ Unit {0}
  | Options.Missing field ↦ Unit {0}
  | Options.Global ↦ Unit {0}
  | Options.Nested context ↦ Unit {0}
  | Options.ReverseNested context ↦ Unit {0}
  | Options.Composite sources size after ↦ ArePositive sources
  | Options.Metric m ↦ Unit {0}
]

-- the kinds of which nothing is prepared
abbrev pub IsPlain : Kind → Type 0
IsPlain k = elim (options_of k) [
  | Options.Terms t ↦ ⊥
  | Options.Histogram h ↦ ⊥
  | Options.Filters names filters other ↦ ⊥
  | Options.Filter query ↦ ⊥
  | Options.Missing field ↦ ⊥
  | Options.Global ↦ Unit {0}
  | Options.Nested context ↦ Unit {0}
  | Options.ReverseNested context ↦ Unit {0}
  | Options.Composite sources size after ↦ Unit {0}
  | Options.Metric m ↦ Unit {0}
]

-- it counts the keys of the aggregation in the shard
abbrev pub IsCounter : Columns → Kind → Counter → Type 0
IsCounter shard k (counter.Terms p) = AreTermsReady shard k p
IsCounter shard k (counter.Filters p) = AreFiltersReady shard k p
IsCounter shard k (counter.Histogram p) = IsHistogramReady k p
IsCounter shard k (counter.DateHistogram p) = IsDateHistogramReady k p × HoldsDates shard p.field
IsCounter shard k counter.Plain = IsPlain k
