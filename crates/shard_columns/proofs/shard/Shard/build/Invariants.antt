use Rattle.std.proofs.Common.{take}
use Rattle.shard_columns.specs.Drafted.{IsDraftOf}
use Rattle.shard_columns.proofs.shard.Shard.build.Given as goal

-- the draft holds the documents so far
abbrev pub invariant-loop-document : goal.invariant-loop-document
invariant-loop-document l = IsDraftOf l.mapping (take l.document-index l.document-items) l.draft
