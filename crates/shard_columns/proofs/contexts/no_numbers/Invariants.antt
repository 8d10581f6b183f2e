use Rattle.std.proofs.Common.{[]}
use Rattle.shard_columns.specs.Contexts.{AreNumbered}
use Rattle.shard_columns.proofs.contexts.no_numbers.Given as goal

abbrev pub invariant-loop-context : goal.invariant-loop-context
invariant-loop-context l = AreNumbered l._context [] l.numbers.items
