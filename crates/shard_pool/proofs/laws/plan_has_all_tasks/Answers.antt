use Rattle.shard_pool.proofs.Plans.{plan-known}
use Rattle.shard_pool.proofs.laws.plan_has_all_tasks.Goals as goal

pub returns : goal.returns
returns c = plan-known
