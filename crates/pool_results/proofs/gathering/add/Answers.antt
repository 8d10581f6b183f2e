use Rattle.std.proofs.Common.{sym, subst}
use Rattle.pool_results.specs.Gathered.{IsGathered}
use Rattle.pool_results.proofs.Beginning.{added}
use Rattle.pool_results.proofs.gathering.add.Goals as goal

pub invariant_of-result : goal.invariant_of-result
invariant_of-result g c = record {
  gathered = subst (IsGathered g.J.PoolCall.pool c.add.new.self) (sym c.join.ensures)
      (added g.J.PoolCall.pool c.args.batch.taken c.args.batch.pass c.args.batch.gathered c.args.outcome.work c.args.outcome.pass c.args.outcome.carried
      c.requires.one c.requires.search c.requires.new c.add.new.self c.add.ensures);
}
