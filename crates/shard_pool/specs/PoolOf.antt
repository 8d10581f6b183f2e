-- The pool of some searches over an index, with the ceilings of the passes that their tasks get ('Search API').
use Rattle.std.specs.Prelude.{ℕ, List}
use Rattle.agg_model.specs.declared.aggregation.Search.{Search}
use Rattle.breaker_words.specs.Passes.{WordsModel}
use Rattle.fitting_laws.specs.Indexes.{index_of}
use Rattle.pool_results.specs.Pools.{Pool}
use Rattle.shard_columns.specs.declared.index.Index.{Index as ShardIndex}

abbrev pub pool_of : WordsModel → ShardIndex → List Search → List ℕ → Pool
pool_of words index searches ceilings = record { words = words; index = index_of index; searches = searches; ceilings = ceilings }
