use Rattle.std.proofs.Common.{◌≡◌, ◌++◌, take}
use Rattle.shard_columns.specs.Lent.{wholes_in}
use Rattle.shard_columns.proofs.values.push_wholes.Given as goal

abbrev pub invariant-loop-value : goal.invariant-loop-value
invariant-loop-value l = l.wholes.items ≡ l.fn.wholes.items ++ wholes_in (take l.value-index l.values)
