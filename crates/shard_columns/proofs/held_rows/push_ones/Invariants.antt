use Rattle.std.proofs.Common.{◌≡◌}
use Rattle.shard_columns.specs.Ones.{one_each}
use Rattle.shard_columns.proofs.held_rows.push_ones.Given as goal

abbrev pub invariant-loop-row : goal.invariant-loop-row
invariant-loop-row l = l.rows.items ≡ one_each l.row
