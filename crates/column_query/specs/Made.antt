-- A query that is made for the mapping of a shard (Elasticsearch Reference 8, 'Query DSL').
use Rattle.std.specs.Prelude.{ℕ, IsTrue}
use Rattle.agg_model.specs.declared.mapping.Mapping.{Mapping}
use Rattle.agg_model.specs.declared.query.Query.{Query}
use Rattle.agg_evaluation.specs.QueryFits.{query_fits}
use Rattle.shard_columns.specs.Built.{IsShardOf}
use Rattle.shard_columns.specs.Columns.{Columns}

-- made for rows of this context, by a mapping of which it is a shard
abbrev pub IsMadeFor : Columns → ℕ → Query → Type 0
IsMadeFor shard context query = ∥ ((m : Mapping) × (IsShardOf m shard × IsTrue (query_fits m context query))) ∥₁

-- for rows of some context
abbrev pub IsMade : Columns → Query → Type 0
IsMade shard query = ∥ ((context : ℕ) × IsMadeFor shard context query) ∥₁
