use Rattle.std.proofs.Common.{ℕ, take}
use Rattle.shard_columns.specs.Values.{WithinReach}
use Rattle.shard_columns.specs.Starts.{AreStarts}
use Rattle.shard_columns.proofs.columns.starts_of.Given as goal

abbrev pub invariant-loop-one : goal.invariant-loop-one
invariant-loop-one l = (size : ℕ) → WithinReach size l.held → AreStarts l.homes l.last.context size (take l.one-index l.held) l.end l.starts.items
