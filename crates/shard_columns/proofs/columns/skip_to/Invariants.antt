use Rattle.std.proofs.Common.{◌+◌, ◌-◌, length}
use Rattle.shard_columns.specs.Starts.{KeepStarts}
use Rattle.shard_columns.proofs.columns.skip_to.Given as goal

abbrev pub decreases-loop-starts : goal.decreases-loop-starts
decreases-loop-starts l = (l.rank + 1) - length l.starts.items

abbrev pub invariant-loop-starts : goal.invariant-loop-starts
invariant-loop-starts l = KeepStarts l.initial.starts.items l.starts.items l.end
