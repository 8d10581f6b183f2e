use Rattle.std.proofs.Common.{◌≡◌, ◌++◌, take}
use Rattle.shard_columns.specs.Layout.{entries_of_laid}
use Rattle.shard_columns.proofs.draft.push_entries.Given as goal

abbrev pub invariant-loop-row : goal.invariant-loop-row
invariant-loop-row l = l.entries ≡ l.fn.entries ++ entries_of_laid (take l.row-index l.rows)
