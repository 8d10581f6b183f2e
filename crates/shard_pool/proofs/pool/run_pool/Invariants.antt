use Rattle.shard_pool.specs.PoolOf.{pool_of}
use Rattle.shard_pool.proofs.pool.run_pool.Given as goal

abbrev pub ghosts-run_pool_by : goal.ghosts-run_pool_by
ghosts-run_pool_by g a = record { pool = pool_of a.words.now a.index.now a.searches.now a.ceilings.now }
