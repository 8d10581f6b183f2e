use Rattle.std.proofs.Common.{[]}
use Rattle.agg_documents.specs.Shards.{cut}
use Rattle.column_loading.specs.Drafts.{AreDraftsOf}
use Rattle.column_loading.proofs.drafts.empty_drafts.Given as goal

-- there is a draft without documents for each shard so far
abbrev pub invariant-loop-shard : goal.invariant-loop-shard
invariant-loop-shard l = AreDraftsOf l.mapping (cut [] l._shard) l.drafts.items
