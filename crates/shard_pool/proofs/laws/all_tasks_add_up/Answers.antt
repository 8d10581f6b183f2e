use Rattle.shard_pool.proofs.Works.{ceilings-sum, runs-shards, works-sum}
use Rattle.shard_pool.proofs.laws.all_tasks_add_up.Goals as goal

pub returns-clause-shards : goal.returns-clause-shards
returns-clause-shards c = runs-shards

pub returns-clause-sums : goal.returns-clause-sums
returns-clause-sums c = works-sum

pub returns-clause-ceilings : goal.returns-clause-ceilings
returns-clause-ceilings c = ceilings-sum
