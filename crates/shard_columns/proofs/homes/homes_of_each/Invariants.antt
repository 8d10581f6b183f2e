use Rattle.shard_columns.proofs.Homing.{AreCounted}
use Rattle.shard_columns.proofs.homes.homes_of_each.Given as goal

abbrev pub invariant-loop-row : goal.invariant-loop-row
invariant-loop-row l = AreCounted l.contexts l.row l.counts.items l.homes.items
