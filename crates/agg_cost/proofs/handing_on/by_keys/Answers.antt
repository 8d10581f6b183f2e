use Rattle.std.proofs.Common.{length}
use Rattle.agg_cost.proofs.Conditions.{countable}
use Rattle.agg_cost.proofs.Handing.{by-keys, all-carried}
use Rattle.agg_cost.proofs.handing_on.by_keys.Goals as goal

pub counter_of-requires-clause-countable : goal.counter_of-requires-clause-countable
counter_of-requires-clause-countable c = countable c.args.shard.now c.args.kind.now c.requires.made

pub key_count-keys-requires-clause-countable : goal.key_count-keys-requires-clause-countable
key_count-keys-requires-clause-countable c = countable c.args.shard.now c.args.kind.now c.requires.made

pub key_count-keys-requires-clause-counter : goal.key_count-keys-requires-clause-counter
key_count-keys-requires-clause-counter c = c.loop-from.invariant.2

pub loop-from-preserved : goal.loop-from-preserved
loop-from-preserved c =
    let rows = c.args.shard.now.rows in
    let reached = c.args.reached.now in
    let i = c.loop-from.from-index in (
      by-keys rows c.args.kind.now c.requires.stays c.loop-from.found.items c.put.new.found.items reached i (record { row = 0; paths = 0 }) c.key_count-keys.result c.saturating_mul.result c.loop-from-test.true c.key_count-keys.ensures c.saturating_mul.ensures (c.in_ok-put.ensures.paths rows) c.loop-from.invariant.0,
      c.in_ok-put.ensures.in_range (length rows) (c.requires.in_range i (record { row = 0; paths = 0 }) c.loop-from-test.true) c.loop-from.invariant.1,
      c.loop-from.invariant.2,
    )

pub returns-clause-paths : goal.returns-clause-paths
returns-clause-paths c =
    all-carried c.args.shard.now.kinds c.args.shard.now.rows c.args.kind.now c.loop-from.found.items c.args.reached.now c.loop-from.from-index c.loop-from.invariant.0 c.loop-from-test.false
