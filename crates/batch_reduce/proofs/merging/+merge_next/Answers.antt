use Rattle.std.proofs.Common.{arith}
use Rattle.batch_reduce.proofs.Joining.{taken-one, taken-two}
use Rattle.batch_reduce.proofs.merging.+merge_next.Goals as goal

pub returns-then-count-eq1-clause-taken : goal.returns-then-count-eq1-clause-taken
returns-then-count-eq1-clause-taken t c = taken-one _ _ _ _ c.if-count-eq1.true c.in-Some.ensures.items

pub returns-clause-taken : goal.returns-clause-taken
returns-clause-taken t c =
    let half = c.args.count in
    taken-two _ _ _ c.args.count _ _ _ _ (omega arith) (omega arith) c.in_ok-one.ensures.taken c.in_ok-other.ensures.taken c.in_ok-merged.ensures.whole
