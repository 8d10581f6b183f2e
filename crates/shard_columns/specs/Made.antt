-- Aggregations and searches that are made for the mapping of a shard (Elasticsearch Reference 8, 'Aggregations').
use Rattle.std.specs.Prelude.{ℕ, Bool, IsTrue}
use Rattle.agg_model.specs.declared.aggregation.Agg.{Agg}
use Rattle.agg_model.specs.declared.aggregation.Search.{Search}
use Rattle.agg_model.specs.declared.mapping.Mapping.{Mapping}
use Rattle.agg_evaluation.specs.SearchFits.{agg_fits, search_fits}
use Rattle.shard_columns.specs.Built.{IsShardOf}
use Rattle.shard_columns.specs.Columns.{Columns}

-- at the top of a search or below, over rows of some context
abbrev pub IsAggFor : Columns → Agg → Type 0
IsAggFor shard agg = ∥ ((m : Mapping) × ((top : Bool) × ((context : ℕ) × (IsShardOf m shard × IsTrue (agg_fits m top context agg))))) ∥₁

abbrev pub IsSearchFor : Columns → Search → Type 0
IsSearchFor shard search = ∥ ((m : Mapping) × (IsShardOf m shard × IsTrue (search_fits m search))) ∥₁
