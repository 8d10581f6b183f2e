use Rattle.shard_pool.proofs.Knowing.{pool-known}
use Rattle.shard_pool.proofs.laws.searches_of_an_index_are_a_pool.Goals as goal

pub returns : goal.returns
returns c = pool-known
