use Rattle.std.proofs.Common.{◌*◌}
use Rattle.pool_worker.proofs.Gathering.{IsMidway}
use Rattle.pool_worker.proofs.merging.merge.Given as goal

-- the results before this ticket were gathered
abbrev pub invariant-loop-ticket : goal.invariant-loop-ticket
invariant-loop-ticket g l = IsMidway g.J.PoolCall.pool l.table l.search l.batch (l.batch * l.size) l.count l.ticket l.gathered.taken l.initial.desk l.desk
