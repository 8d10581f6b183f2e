use Rattle.std.proofs.Common.{take}
use Rattle.shard_columns.proofs.Drafting.{AreNew}
use Rattle.shard_columns.proofs.values.Drafts.new.Given as goal

abbrev pub invariant-loop-kind : goal.invariant-loop-kind
invariant-loop-kind l = AreNew (take l.kind-index l.kinds) l.columns.items
