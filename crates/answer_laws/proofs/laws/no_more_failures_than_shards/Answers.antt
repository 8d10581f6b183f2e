use Rattle.answer_laws.proofs.FailureLaws.{ascending-length}
use Rattle.std.proofs.Common.{arith}
use Rattle.answer_laws.proofs.laws.no_more_failures_than_shards.Goals as goal

pub returns : goal.returns
returns c shards failures are = let fewer = ascending-length 0 shards failures are in omega (arith, fewer)
