use Rattle.shard_pool.proofs.WorkLeft.{works-failures, works-left}
use Rattle.shard_pool.proofs.laws.shards_are_left_out_or_left.Goals as goal

pub returns-clause-failures : goal.returns-clause-failures
returns-clause-failures c = works-failures

pub returns-clause-left : goal.returns-clause-left
returns-clause-left c = works-left
