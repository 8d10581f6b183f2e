use Rattle.std.specs.Prelude.{IsTrue}
use Rattle.pool_worker.proofs.Gathering.{one-task}
use Rattle.pool_worker.proofs.running.run_or_skip.Goals as goal

pub returns-clause-tasks : goal.returns-clause-tasks
returns-clause-tasks g c =
    one-task g.J.PoolCall.pool c.args.load.search c.args.load.shard c.args.task c.result_of-outcome.result.work c.result_of-outcome.ensures.search c.result_of-outcome.ensures.shard c.requires.label
