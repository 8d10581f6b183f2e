use Rattle.shard_columns.specs.Homes.{AreNoCounts}
use Rattle.shard_columns.proofs.homes.no_counts.Given as goal

abbrev pub invariant-loop-context : goal.invariant-loop-context
invariant-loop-context l = AreNoCounts l._context l.counts.items
