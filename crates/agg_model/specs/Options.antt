-- The options of an aggregation by their names (Elasticsearch Reference 8, 'Terms aggregation', 'Histogram aggregation',
-- 'Date histogram aggregation', 'Metrics aggregations').
use Rattle.std.specs.Prelude.{ℕ, Bool, true, false, List, Option}
use Rattle.agg_model.specs.declared.key.Key.{Key}
use Rattle.agg_model.specs.declared.row.Scalar.{Scalar}
use Rattle.agg_model.specs.declared.query.Probe.{Probe}
use Rattle.agg_model.specs.declared.query.Query.{Query}
use Rattle.agg_model.specs.declared.aggregation.Bounds.{Bounds}
use Rattle.agg_model.specs.declared.aggregation.Order.{Order}
use Rattle.agg_model.specs.declared.aggregation.Spacing.{Spacing}
use Rattle.agg_model.specs.declared.aggregation.Spacing.TheVariants.{Numbers, Dates}
use Rattle.agg_model.specs.declared.aggregation.CompositeSource.{CompositeSource}
use Rattle.agg_model.specs.declared.aggregation.Kind.{Kind}
use Rattle.agg_model.specs.declared.aggregation.Kind.TheVariants as kind

pub record TermsOptions : Type 0 where
  pub field : ℕ
  pub size : ℕ
  pub shard_size : ℕ
  pub min_doc_count : ℕ
  pub order : List Order
  pub include : Option (List Probe)
  pub exclude : List Probe
  pub missing : Option Scalar
  pub show_error : Bool

-- of a histogram over numbers or over dates: the spacing says where its buckets begin
pub record HistogramOptions : Type 0 where
  pub field : ℕ
  pub spacing : Spacing
  pub min_doc_count : ℕ
  pub extended : Bounds
  pub hard : Bounds
  pub keyed : Bool
  pub order : List Order
  pub missing : Option Scalar

-- what a metric says of its values
pub data Measure : Type 0 where
  sum : Measure
  least : Measure
  greatest : Measure
  average : Measure
  value_count : Measure

pub record MetricOptions : Type 0 where
  pub measure : Measure
  pub field : ℕ
  pub missing : Option Scalar

-- what an aggregation does: its kind with its options, the two histograms as one, and the five metrics
pub data Options : Type 0 where
  Terms : TermsOptions → Options
  Histogram : HistogramOptions → Options
  Filters : Option (List (List ℕ)) → List Query → Option (List ℕ) → Options
  Filter : Query → Options
  Missing : ℕ → Options
  Global : Options
  Nested : ℕ → Options
  ReverseNested : ℕ → Options
  Composite : List CompositeSource → ℕ → Option Key → Options
  Metric : MetricOptions → Options

abbrev pub metric_over : Measure → ℕ → Option Scalar → Options
metric_over measure field missing = Options.Metric (record { measure = measure; field = field; missing = missing })

abbrev pub options_of : Kind → Options
options_of (kind.Terms field size shard_size min_doc_count order include exclude missing show_error) = Options.Terms (record {
  field = field;
  size = size;
  shard_size = shard_size;
  min_doc_count = min_doc_count;
  order = order;
  include = include;
  exclude = exclude;
  missing = missing;
  show_error = show_error;
})
options_of (kind.Histogram field interval offset min_doc_count extended hard keyed order missing) = Options.Histogram (record {
  field = field;
  spacing = Numbers interval offset;
  min_doc_count = min_doc_count;
  extended = extended;
  hard = hard;
  keyed = keyed;
  order = order;
  missing = missing;
})
options_of (kind.DateHistogram field period zone min_doc_count extended hard keyed order missing) = Options.Histogram (record {
  field = field;
  spacing = Dates period zone;
  min_doc_count = min_doc_count;
  extended = extended;
  hard = hard;
  keyed = keyed;
  order = order;
  missing = missing;
})
options_of (kind.Filters names filters other) = Options.Filters names filters other
options_of (kind.Filter query) = Options.Filter query
options_of (kind.Missing field) = Options.Missing field
options_of kind.Global = Options.Global
options_of (kind.Nested context) = Options.Nested context
options_of (kind.ReverseNested context) = Options.ReverseNested context
options_of (kind.Composite sources size after) = Options.Composite sources size after
options_of (kind.Sum field missing) = metric_over Measure.sum field missing
options_of (kind.Min field missing) = metric_over Measure.least field missing
options_of (kind.Max field missing) = metric_over Measure.greatest field missing
options_of (kind.Avg field missing) = metric_over Measure.average field missing
options_of (kind.ValueCount field missing) = metric_over Measure.value_count field missing

-- the aggregation of terms with these options
abbrev pub terms_kind : TermsOptions → Kind
terms_kind t = kind.Terms t.field t.size t.shard_size t.min_doc_count t.order t.include t.exclude t.missing t.show_error

-- the histogram with these options
abbrev pub histogram_kind : HistogramOptions → Kind
histogram_kind h = elim h.spacing [
  | Numbers interval offset ↦ kind.Histogram h.field interval offset h.min_doc_count h.extended h.hard h.keyed h.order h.missing
  | Dates period zone ↦ kind.DateHistogram h.field period zone h.min_doc_count h.extended h.hard h.keyed h.order h.missing
]

-- a measure that is one whole number, or null
abbrev pub is_number : Measure → Bool
is_number Measure.sum = true
is_number Measure.least = true
is_number Measure.greatest = true
is_number Measure.average = false
is_number Measure.value_count = true

-- a metric by whose value buckets can be ordered
abbrev pub is_sortable : Kind → Bool
is_sortable k = elim (options_of k) [
  | Options.Terms t ↦ false
  | Options.Histogram h ↦ false
  | Options.Filters names filters other ↦ false
  | Options.Filter query ↦ false
  | Options.Missing field ↦ false
  | Options.Global ↦ false
  | Options.Nested context ↦ false
  | Options.ReverseNested context ↦ false
  | Options.Composite sources size after ↦ false
  | Options.Metric m ↦ is_number m.measure
]
