-- Searches over an index of shards, with the ceilings of the passes that their tasks get ('Search API').
use Rattle.std.specs.Prelude.{◌≡◌, IsTrue}
use Rattle.std.specs.List.{list_all}
use Rattle.agg_cost.specs.Searches.{AreRoomsFor, kinds_of, task_ceilings}
use Rattle.agg_evaluation.specs.SearchFits.{search_fits}
use Rattle.fitting_laws.specs.Indexes.{index_of}
use Rattle.pool_results.specs.Pools.{Pool}
use Rattle.shard_columns.specs.Index.{rows_by_shard}
use Rattle.shard_columns.specs.declared.index.Index.{Index as ShardIndex}

-- the searches are made for the index, and each task has a ceiling and a pass that may hold at least that
pub record IsPoolOf (index : ShardIndex) (p : Pool) : Type 0 where
  pub index_is : p.index ≡ index_of index
  pub made : IsTrue (list_all (search_fits index.mapping) p.searches)
  pub ceilings : AreRoomsFor p.ceilings (task_ceilings (kinds_of index.mapping) p.searches (rows_by_shard index.shards))
