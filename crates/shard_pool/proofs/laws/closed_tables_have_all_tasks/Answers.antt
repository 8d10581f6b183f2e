use Rattle.shard_pool.proofs.Works.{have-each-task}
use Rattle.shard_pool.proofs.laws.closed_tables_have_all_tasks.Goals as goal

pub returns : goal.returns
returns c = λ p size plan ms of closed. have-each-task p (λ w. w) size plan of ms closed
