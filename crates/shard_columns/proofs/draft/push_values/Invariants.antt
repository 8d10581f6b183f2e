use Rattle.std.proofs.Common.{take}
use Rattle.shard_columns.specs.Drafted.{HoldsBehind}
use Rattle.shard_columns.proofs.draft.push_values.Given as goal

abbrev pub invariant-loop-place : goal.invariant-loop-place
invariant-loop-place l = HoldsBehind l.first (take l.place l.rows) l.fn.numbers l.fn.drafts l.numbers l.drafts
