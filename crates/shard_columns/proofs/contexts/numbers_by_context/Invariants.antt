use Rattle.std.proofs.Common.{take}
use Rattle.shard_columns.specs.Contexts.{AreNumbered}
use Rattle.shard_columns.proofs.contexts.numbers_by_context.Given as goal

abbrev pub invariant-loop-place : goal.invariant-loop-place
invariant-loop-place l = AreNumbered l.count (take l.place l.rows) l.numbers.items
