use Rattle.column_query.proofs.Ready.{numbers-more}
use Rattle.column_query.proofs.preparing.numbers_of.Goals as goal

pub loop-probe-preserved : goal.loop-probe-preserved
loop-probe-preserved c =
    numbers-more c.args.shard.now.rows c.args.field c.args.probes.now c.loop-probe.probe-index c.probe-item.result c.number_of_probe.result c.loop-probe.numbers.items c.put.new.numbers.items
    c.loop-probe-test.true c.probe-item.is c.number_of_probe.ensures c.in_ok-put.ensures c.loop-probe.invariant
