use Rattle.std.proofs.Common.{take}
use Rattle.agg_reading.specs.Store.{live_documents}
use Rattle.agg_documents.specs.Shards.{cut}
use Rattle.column_loading.specs.Drafts.{AreDraftsOf}
use Rattle.column_loading.specs.Loadings.{entries_of}
use Rattle.column_loading.proofs.again.read_again.Given as goal

-- the drafts hold the live documents of the slots so far
abbrev pub invariant-loop-slot : goal.invariant-loop-slot
invariant-loop-slot l = AreDraftsOf l.mapping (cut (live_documents (entries_of l.mapping (take l.slot-index l.slots))) l.shards) l.drafts.items
