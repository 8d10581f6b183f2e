-- Searches that are made for a mapping (Elasticsearch Reference 8, 'Aggregations').
use Rattle.std.specs.Prelude.{ℕ, ◌^◌, ◌==◌, List, [], ◌∷◌, length, map, slice_get, Option, Some, None, Bool, true, false, not, ◌&&◌, ◌||◌, nat_le, nat_lt, zero, suc, IsTrue}
use Rattle.std.specs.List.{list_all}
use Rattle.std.specs.Option.{option_map_or}
use Rattle.date_spec.specs.Instants.{is_in_range}
use Rattle.agg_model.specs.declared.limits.TheConstants.{MAX_FILTERS, MAX_ORDERS, MAX_PAGE, MAX_SOURCES}
use Rattle.agg_model.specs.declared.key.Key.{Key}
use Rattle.agg_model.specs.declared.query.Query.{Query}
use Rattle.agg_model.specs.declared.mapping.FieldKind.{FieldKind}
use Rattle.agg_model.specs.declared.mapping.Mapping.{Mapping}
use Rattle.agg_model.specs.declared.row.Scalar.{Scalar}
use Rattle.agg_model.specs.declared.row.Scalar.TheVariants as scalar
use Rattle.agg_model.specs.declared.aggregation.Agg.{Agg}
use Rattle.agg_model.specs.declared.aggregation.Agg.TheOpen.{Agg-F}
use Rattle.agg_model.specs.declared.aggregation.Bounds.{Bounds}
use Rattle.agg_model.specs.declared.aggregation.Spacing.{Spacing}
use Rattle.agg_model.specs.declared.aggregation.Spacing.TheVariants.{Numbers, Dates}
use Rattle.agg_model.specs.declared.aggregation.CompositeSource.{CompositeSource}
use Rattle.agg_model.specs.declared.aggregation.Kind.{Kind}
use Rattle.agg_model.specs.Options.{Options, TermsOptions, HistogramOptions, MetricOptions, Measure, options_of, is_sortable}
use Rattle.agg_evaluation.specs.Profile.{Form, Steps, profile}
use Rattle.agg_model.specs.declared.aggregation.Order.{Order}
use Rattle.agg_model.specs.declared.aggregation.OrderBy.{OrderBy}
use Rattle.agg_model.specs.declared.aggregation.OrderBy.TheVariants as by
use Rattle.agg_model.specs.declared.aggregation.Search.{Search}
use Rattle.agg_evaluation.specs.Folds.{fold_agg}
use Rattle.agg_model.specs.Contexts.{encloses}
use Rattle.agg_model.specs.BoundsOrder.{is_at_most, lies_within}
use Rattle.agg_model.specs.FieldKinds.{ValueKind, value_kind, is_whole_kind, is_number_kind, is_date_kind, fits_below}
use Rattle.agg_evaluation.specs.CompositeKeys.{is_composite_of}
use Rattle.agg_evaluation.specs.Conditions.{is_spaced}
use Rattle.agg_evaluation.specs.QueryFits.{field_is, are_probes, is_path_beneath, query_fits}

-- a whole number in 64 bits, an instant in the range of dates
abbrev pub is_stored_as : ValueKind → Scalar → Bool
is_stored_as (ValueKind.wholes half) (scalar.Whole z) = fits_below (2 ^ 63) z
is_stored_as (ValueKind.wholes half) (scalar.Word w) = false
is_stored_as (ValueKind.wholes half) (scalar.Flag b) = false
is_stored_as ValueKind.words (scalar.Whole z) = false
is_stored_as ValueKind.words (scalar.Word w) = true
is_stored_as ValueKind.words (scalar.Flag b) = false
is_stored_as ValueKind.flags (scalar.Whole z) = false
is_stored_as ValueKind.flags (scalar.Word w) = false
is_stored_as ValueKind.flags (scalar.Flag b) = true
is_stored_as ValueKind.dates (scalar.Whole z) = is_in_range z
is_stored_as ValueKind.dates (scalar.Word w) = false
is_stored_as ValueKind.dates (scalar.Flag b) = false

-- the value of rows without one: of the field's kind, a whole number in 64 bits, an instant in the range of dates
abbrev pub is_stored : FieldKind → Scalar → Bool
is_stored kind value = is_stored_as (value_kind kind) value

abbrev pub is_missing : FieldKind → Option Scalar → Bool
is_missing k missing = option_map_or (is_stored k) missing true

-- an order by a child needs one there whose value can be compared
abbrev pub by_fits : List Kind → OrderBy → Bool
by_fits children by.Count = true
by_fits children by.Key = true
by_fits children (by.Child n) = option_map_or is_sortable (slice_get children n) false

abbrev pub order_fits : List Kind → Order → Bool
order_fits children o = by_fits children o.by

abbrev pub orders_fit : List Kind → List Order → Bool
orders_fit children orders = nat_le 1 (length orders) && (nat_le (length orders) MAX_ORDERS && list_all (order_fits children) orders)

-- an interval above 0 of 63 bits
abbrev pub is_interval : ℕ → Bool
is_interval n = nat_le 1 n && nat_lt n (2 ^ 63)

abbrev pub is_whole_field : Mapping → ℕ → Option Scalar → Bool
is_whole_field m field missing = field_is m (λ k. is_whole_kind k && is_missing k missing) field

abbrev pub is_date_field : Mapping → ℕ → Option Scalar → Bool
is_date_field m field missing = field_is m (λ k. is_date_kind k && is_missing k missing) field

-- a histogram is over whole numbers or over dates
abbrev pub is_divided_field : Mapping → Spacing → ℕ → Option Scalar → Bool
is_divided_field m (Numbers interval offset) field missing = is_whole_field m field missing
is_divided_field m (Dates period zone) field missing = is_date_field m field missing

-- an offset is below the interval
abbrev pub spacing_made : Spacing → Bounds → Bounds → Bool
spacing_made (Numbers interval offset) extended hard = is_interval interval && nat_lt offset interval
spacing_made (Dates period zone) extended hard = is_spaced (Dates period zone) extended hard

-- one source of a composite: an interval only over whole numbers
abbrev pub interval_fits : Mapping → ℕ → Option ℕ → Bool
interval_fits m field None = field_is m (λ k. true) field
interval_fits m field (Some interval) = nat_le 1 interval && field_is m is_whole_kind field

abbrev pub source_fits : Mapping → CompositeSource → Bool
source_fits m s = interval_fits m s.field s.interval

-- a context that encloses another strictly; the root encloses all others
abbrev pub is_around : Mapping → ℕ → ℕ → Bool
is_around m context zero = not (context == 0)
is_around m context (suc path) = option_map_or (λ p. encloses m.nested p.path context) (slice_get m.nested path) false

-- the context of one nested path beneath another
abbrev pub is_within : Mapping → ℕ → ℕ → Bool
is_within m context zero = false
is_within m context (suc path) = is_path_beneath m context path

-- the fields of a metric: of any kind for a value count, of numbers or dates for the least and the greatest, else of numbers
abbrev pub takes : Measure → FieldKind → Bool
takes Measure.sum k = is_whole_kind k
takes Measure.least k = is_number_kind k
takes Measure.greatest k = is_number_kind k
takes Measure.average k = is_whole_kind k
takes Measure.value_count k = true

abbrev pub metric_fits : Mapping → MetricOptions → Bool
metric_fits m o = field_is m (λ k. takes o.measure k && is_missing k o.missing) o.field

abbrev pub terms_made : Mapping → List Kind → TermsOptions → Bool
terms_made m children t =
    field_is m (λ k. option_map_or (are_probes k) t.include true && (are_probes k t.exclude && is_missing k t.missing)) t.field
    && (nat_le 1 t.size && (nat_le t.size t.shard_size && (nat_le 1 t.min_doc_count && orders_fit children t.order)))

-- in both bounds the least is at most the greatest, and the extended ones lie within the hard ones
abbrev pub histogram_made : Mapping → List Kind → HistogramOptions → Bool
histogram_made m children h =
    is_divided_field m h.spacing h.field h.missing
    && (spacing_made h.spacing h.extended h.hard && (is_at_most h.extended.min h.extended.max
    && (is_at_most h.hard.min h.hard.max && (lies_within h.extended h.hard && orders_fit children h.order))))

-- named filters have a name each
abbrev pub filters_made : Mapping → ℕ → Option (List (List ℕ)) → List Query → Bool
filters_made m context names filters =
    nat_le 1 (length filters) && (nat_le (length filters) MAX_FILTERS
    && (option_map_or (λ ns. length ns == length filters) names true && list_all (query_fits m context) filters))

-- the key after which a page goes on has a part for each source
abbrev pub composite_made : Mapping → List CompositeSource → ℕ → Option Key → Bool
composite_made m sources size after =
    nat_le 1 (length sources) && (nat_le (length sources) MAX_SOURCES && (list_all (source_fits m) sources
    && (nat_le 1 size && (nat_le size MAX_PAGE && option_map_or (is_composite_of (length sources)) after true))))

-- a kind of aggregation over rows of a context, at the top or below, with children of these kinds
abbrev pub kind_fits : Mapping → Bool → ℕ → List Kind → Kind → Bool
kind_fits m top context children kind = elim (options_of kind) [
  | Options.Terms t ↦ terms_made m children t
  | Options.Histogram h ↦ histogram_made m children h
  | Options.Filters names filters other ↦ filters_made m context names filters
  | Options.Filter query ↦ query_fits m context query
  | Options.Missing field ↦ field_is m (λ k. true) field
  | Options.Global ↦ top
  | Options.Nested inner ↦ is_within m context inner
  | Options.ReverseNested outer ↦ is_around m context outer
  | Options.Composite sources size after ↦ top && composite_made m sources size after
  | Options.Metric o ↦ metric_fits m o
]

abbrev pub is_metric : Kind → Bool
is_metric k = elim (profile k).form [
  | Form.terms t ↦ false
  | Form.histogram h ↦ false
  | Form.pages sources size after ↦ false
  | Form.fixed ks ↦ false
  | Form.number o ↦ true
]

-- `global` and `composite` stand at the top alone
abbrev pub is_top : Kind → Bool
is_top k = (profile k).at_top

-- the context of the rows that it hands on
abbrev pub handed : ℕ → Kind → ℕ
handed context k = elim (profile k).steps [
  | Steps.same ↦ context
  | Steps.down inner ↦ inner
  | Steps.up outer ↦ outer
  | Steps.all_roots ↦ 0
]

-- an aggregation's kind, and whether it is made for the mapping at the top or below, over rows of a context
pub record Made : Type 0 where
  pub kind : Kind
  pub fits : Bool → ℕ → Bool

abbrev pub no_children : List Made → Bool
no_children [] = true
no_children (c ∷ cs) = false

abbrev pub is_made : Mapping → Kind → List Made → Bool → ℕ → Bool
is_made m k children top context =
    kind_fits m top context (map (λ c. c.kind) children) k
    && ((not (is_metric k) || no_children children) && list_all (λ c. c.fits false (handed context k)) children)

abbrev pub made_at : Mapping → Agg-F Made → Made
made_at m a = record { kind = a.kind; fits = is_made m a.kind a.children }

abbrev pub agg_fits : Mapping → Bool → ℕ → Agg → Bool
agg_fits m top context a = (fold_agg (made_at m) a).fits top context

-- a search that is made for the mapping
abbrev pub search_fits : Mapping → Search → Bool
search_fits m s = query_fits m 0 s.query && list_all (agg_fits m true 0) s.aggs

-- a search such as bodies give: made for some mapping
abbrev pub IsMade : Search → Type 0
IsMade s = ∥ ((m : Mapping) × IsTrue (search_fits m s)) ∥₁
