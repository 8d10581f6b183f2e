use Rattle.std.proofs.Common.{◌≡◌, ◌++◌, take}
use Rattle.shard_columns.specs.Lent.{flags_in}
use Rattle.shard_columns.proofs.values.push_flags.Given as goal

abbrev pub invariant-loop-value : goal.invariant-loop-value
invariant-loop-value l = l.flags.items ≡ l.fn.flags.items ++ flags_in (take l.value-index l.values)
