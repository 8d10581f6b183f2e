-- Aggregations (Elasticsearch Reference 8, 'Aggregations').
use Rattle.std.specs.Prelude.{ℕ, List, [], ◌∷◌, Option, Some, None, Ok, Bool, true, false, ◌&&◌, ◌||◌, ◌==◌, not, if◌then◌else◌, is_some, codes}
use Rattle.std.specs.List.{list_any}
use Rattle.std.specs.Str.{bytes_eq}
use Rattle.serde_json.specs.Data.{Data, Members}
use Rattle.serde_json.specs.Find.{get_member}
use Rattle.agg_model.specs.declared.body_refusal.TheConstants.{NOT_ONE_MEMBER}
use Rattle.agg_model.specs.declared.mapping.Mapping.{Mapping}
use Rattle.agg_model.specs.declared.aggregation.Kind.{Kind}
use Rattle.agg_model.specs.declared.aggregation.Kind.TheVariants as kind
use Rattle.agg_reading.specs.declared.names.KindName.{KindName}
use Rattle.agg_reading.specs.declared.names.KindName.TheVariants as name
use Rattle.agg_reading.specs.declared.parts.NamedOrder.{NamedOrder}
use Rattle.agg_reading.specs.declared.parts.ReadKind.{ReadKind}
use Rattle.agg_reading.specs.Reading.{Reading, ◌>>=◌, refuse, or_refuse}
use Rattle.agg_reading.specs.Json.{sole_besides, is_among}
use Rattle.agg_reading.specs.Query.{top_query_at}
use Rattle.agg_reading.specs.Terms.{terms_at}
use Rattle.agg_reading.specs.Histogram.{histogram_at}
use Rattle.agg_reading.specs.DateHistogram.{date_histogram_at}
use Rattle.agg_reading.specs.Filters.{is_name, filters_at}
use Rattle.agg_reading.specs.After.{composite_at}
use Rattle.agg_reading.specs.Metrics.{number_metric_at, extreme_at, any_metric_at, missing_kind_at, global_at, nested_context_at, outer_context_at}

unfoldable pub kind_name : List ℕ → Option KindName
kind_name s =
    if bytes_eq s (codes "avg") then Some name.Avg else (
    if bytes_eq s (codes "composite") then Some name.Composite else (
    if bytes_eq s (codes "date_histogram") then Some name.DateHistogram else (
    if bytes_eq s (codes "filter") then Some name.Filter else (
    if bytes_eq s (codes "filters") then Some name.Filters else (
    if bytes_eq s (codes "global") then Some name.Global else (
    if bytes_eq s (codes "histogram") then Some name.Histogram else (
    if bytes_eq s (codes "max") then Some name.Max else (
    if bytes_eq s (codes "min") then Some name.Min else (
    if bytes_eq s (codes "missing") then Some name.Missing else (
    if bytes_eq s (codes "nested") then Some name.Nested else (
    if bytes_eq s (codes "reverse_nested") then Some name.ReverseNested else (
    if bytes_eq s (codes "sum") then Some name.Sum else (
    if bytes_eq s (codes "terms") then Some name.Terms else (
    if bytes_eq s (codes "value_count") then Some name.ValueCount else None))))))))))))))

-- a kind without an order, and the context of the rows that it hands on
abbrev pub plain : ℕ → ℕ → Kind → Reading ReadKind
plain within queries k = Ok (record { kind = k; order = []; within = within; queries = queries })

abbrev pub ordered : ℕ → ℕ → Kind × List NamedOrder → Reading ReadKind
ordered within queries k = Ok (record { kind = k.0; order = k.1; within = within; queries = queries })

-- queries : how many queries of the search were begun before
unfoldable pub kind_at : KindName → Mapping → ℕ → ℕ → List ℕ → Data → Reading ReadKind
kind_at name.Terms m context queries at d = terms_at m at d >>= ordered context queries
kind_at name.Histogram m context queries at d = histogram_at m at d >>= ordered context queries
kind_at name.DateHistogram m context queries at d = date_histogram_at m at d >>= ordered context queries
kind_at name.Filters m context queries at d = filters_at m context queries at d >>= λ f. plain context f.1 f.0
kind_at name.Filter m context queries at d = top_query_at m context queries at d >>= λ q. plain context q.1 (kind.Filter q.0)
kind_at name.Missing m context queries at d = missing_kind_at m at d >>= plain context queries
kind_at name.Global m context queries at d = global_at at d >>= plain 0 queries
kind_at name.Nested m context queries at d = nested_context_at m context at d >>= λ inner. plain inner queries (kind.Nested inner)
kind_at name.ReverseNested m context queries at d = outer_context_at m context at d >>= λ outer. plain outer queries (kind.ReverseNested outer)
kind_at name.Composite m context queries at d = composite_at m at d >>= plain context queries
kind_at name.Sum m context queries at d = number_metric_at m at d >>= λ f. plain context queries (kind.Sum f.0 f.1)
kind_at name.Min m context queries at d = extreme_at m at d >>= λ f. plain context queries (kind.Min f.0 f.1)
kind_at name.Max m context queries at d = extreme_at m at d >>= λ f. plain context queries (kind.Max f.0 f.1)
kind_at name.Avg m context queries at d = number_metric_at m at d >>= λ f. plain context queries (kind.Avg f.0 f.1)
kind_at name.ValueCount m context queries at d = any_metric_at m at d >>= λ f. plain context queries (kind.ValueCount f.0 f.1)

-- where an aggregation may stand
pub data Standing : Type 0 where
  -- with none below it
  alone : Standing
  -- at the top, and nowhere else
  at_top : Standing
  anywhere : Standing

abbrev pub standing : KindName → Standing
standing name.Avg = Standing.alone
standing name.Composite = Standing.at_top
standing name.DateHistogram = Standing.anywhere
standing name.Filter = Standing.anywhere
standing name.Filters = Standing.anywhere
standing name.Global = Standing.at_top
standing name.Histogram = Standing.anywhere
standing name.Max = Standing.alone
standing name.Min = Standing.alone
standing name.Missing = Standing.anywhere
standing name.Nested = Standing.anywhere
standing name.ReverseNested = Standing.anywhere
standing name.Sum = Standing.alone
standing name.Terms = Standing.anywhere
standing name.ValueCount = Standing.alone

abbrev pub is_metric : KindName → Bool
is_metric n = elim (standing n) [ Standing.alone ↦ true | Standing.at_top ↦ false | Standing.anywhere ↦ false ]

abbrev pub is_top_kind : KindName → Bool
is_top_kind n = elim (standing n) [ Standing.alone ↦ false | Standing.at_top ↦ true | Standing.anywhere ↦ false ]

-- not a word that stands beside children in an answer, and none of `[`, `]`, `>`
unfoldable pub is_aggregation_name : List ℕ → Bool
is_aggregation_name s =
    is_name s && not (list_any (λ b. b == 91 || b == 93 || b == 62) s)
    && not (is_among (codes "doc_count" ∷ codes "doc_count_error_upper_bound" ∷ codes "key" ∷ codes "key_as_string" ∷ []) s)

-- `aggs` and `aggregations` are one member with two names
abbrev pub has_both : Members → Bool
has_both ms = is_some (get_member (codes "aggregations") ms) && is_some (get_member (codes "aggs") ms)

unfoldable pub kind_member : List ℕ → Members → Reading (List ℕ × Data)
kind_member at ms = if has_both ms then refuse NOT_ONE_MEMBER at else or_refuse NOT_ONE_MEMBER at (sole_besides (codes "aggregations" ∷ codes "aggs" ∷ []) None ms)

abbrev pub children_name : Members → List ℕ
children_name ms = if is_some (get_member (codes "aggs") ms) then codes "aggs" else codes "aggregations"
