-- When a search can run ('Search API').
use Rattle.std.specs.Prelude.{◌≡◌, ℕ, Some, IsTrue}
use Rattle.agg_evaluation.specs.Ceiling.{search_ceiling}
use Rattle.agg_evaluation.specs.SearchFits.{search_fits}
use Rattle.agg_model.specs.declared.aggregation.Search.{Search}
use Rattle.agg_spec.specs.Index.{field_kinds}
use Rattle.fitting_laws.specs.Indexes.{index_of}
use Rattle.shard_columns.specs.declared.index.Index.{Index as ShardIndex}
use Rattle.shard_columns.specs.Index.{rows_by_shard}

-- the search is made for the index, and its tasks have a ceiling together
pub record CanRun (index : ShardIndex) (search : Search) : Type 0 where
  pub made : IsTrue (search_fits index.mapping search)
  pub ceiling : ℕ
  pub is : search_ceiling (field_kinds (index_of index)) search (rows_by_shard index.shards) ≡ Some ceiling
