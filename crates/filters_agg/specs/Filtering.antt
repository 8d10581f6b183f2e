-- Aggregations whose buckets are given by queries (Elasticsearch Reference 8, 'Filters', 'Filter' and 'Missing aggregation').
use Rattle.std.specs.Prelude.{ℕ, ◌≤◌, Bool, List, length, IsTrue}
use Rattle.std.specs.List.{list_all}
use Rattle.agg_model.specs.declared.limits.TheConstants.{MAX_FILTERS}
use Rattle.agg_model.specs.declared.mapping.Mapping.{Mapping}
use Rattle.agg_model.specs.declared.query.Query.{Query}
use Rattle.agg_model.specs.declared.aggregation.Kind.{Kind}
use Rattle.agg_model.specs.Options.{Options, options_of}
use Rattle.agg_evaluation.specs.QueryFits.{query_fits}
use Rattle.agg_evaluation.specs.SearchFits.{kind_fits}
use Rattle.shard_columns.specs.Built.{IsShardOf}
use Rattle.shard_columns.specs.Columns.{Columns}

-- the aggregation is a filters with at most MAX_FILTERS of them, a filter or a missing
abbrev pub IsFiltering : Kind → Type 0
IsFiltering k = elim (options_of k) [
  | Options.Terms t ↦ ⊥
  | Options.Histogram h ↦ ⊥
  | Options.Filters names filters other ↦ length filters ≤ MAX_FILTERS
  | Options.Filter query ↦ Unit {0}
  | Options.Missing field ↦ Unit {0}
  | Options.Global ↦ ⊥
  | Options.Nested context ↦ ⊥
  | Options.ReverseNested context ↦ ⊥
  | Options.Composite sources size after ↦ ⊥
  | Options.Metric m ↦ ⊥
]

-- the aggregation is made for the mapping of the shard: at the top of a search or not, over rows of some context, and with
-- children of some kinds
abbrev pub IsMadeFor : Columns → Kind → Type 0
IsMadeFor shard kind =
    ∥ ((m : Mapping) × ((top : Bool) × ((context : ℕ) × ((children : List Kind) × (IsShardOf m shard × IsTrue (kind_fits m top context children kind)))))) ∥₁

-- the queries are made for the mapping of the shard, over rows of one context
abbrev pub AreMadeFor : Columns → List Query → Type 0
AreMadeFor shard queries = ∥ ((m : Mapping) × ((context : ℕ) × (IsShardOf m shard × IsTrue (list_all (query_fits m context) queries)))) ∥₁
