use Rattle.std.proofs.Common.{get_or}
use Rattle.shard_columns.specs.Values.{held_count, no_span}
use Rattle.shard_columns.specs.declared.values.Held.{Held}
use Rattle.shard_columns.proofs.Counting.{greatest-more}
use Rattle.shard_columns.proofs.Storing.{get_or-any}
use Rattle.shard_columns.proofs.held_rows.most_of.Goals as goal

pub loop-one-preserved : goal.loop-one-preserved
loop-one-preserved c =
    let none : Held = record { row = 0; span = no_span } in
    let h = get_or c.args.held.now c.loop-one.one-index none in
    greatest-more held_count c.args.held.now c.loop-one.one-index h c.loop-one.most c.saturating_sub.result c.max-most.result c.loop-one-test.true (get_or-any c.args.held.now c.loop-one.one-index none h c.loop-one-test.true) c.saturating_sub.ensures c.loop-one.invariant c.max-most.ensures
