use Rattle.column_query.proofs.Ready.{bounds-more}
use Rattle.column_query.proofs.preparing.bounds_of.Goals as goal

pub loop-test-preserved : goal.loop-test-preserved
loop-test-preserved c =
    bounds-more c.args.shard.now.rows c.args.field c.args.tests.now c.loop-test.test-index c.test-item.result c.loop-test.bounds.items c.push.new.self.items c.bound_of.result c.loop-test-test.true c.test-item.is c.bound_of.ensures
    c.in_ok-push.ensures.items c.loop-test.invariant
