use Rattle.pool_results.proofs.Beginning.{begun}
use Rattle.pool_results.proofs.gathering.begin.Goals as goal

pub invariant_of-result : goal.invariant_of-result
invariant_of-result g c = record {
  gathered = begun g.J.PoolCall.pool c.args.outcome.work c.args.outcome.pass c.args.outcome.carried c.requires.one c.of-taken.result c.of-taken.ensures;
}
