use Rattle.std.proofs.Common.{◌≡◌, slice_get, drop}
use Rattle.agg_reading.specs.Store.{live_documents}
use Rattle.agg_documents.specs.Slots.{entries_of}
use Rattle.agg_documents.proofs.store.Store.get.Given as goal

-- the document is the one at this place of those that are left
abbrev pub invariant-loop-slot : goal.invariant-loop-slot
invariant-loop-slot l = slice_get (live_documents (entries_of (drop l.slot-index l.slot-items))) l.left ≡ slice_get (live_documents l.fn.self) l.place
