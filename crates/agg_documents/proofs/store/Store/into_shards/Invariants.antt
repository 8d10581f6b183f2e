use Rattle.agg_documents.proofs.Dealing.{Dealt}
use Rattle.agg_documents.proofs.store.Store.into_shards.Given as goal

-- the lists have the live documents so far
abbrev pub invariant-loop-slot : goal.invariant-loop-slot
invariant-loop-slot l = Dealt l.lists.items l.slot-iterator.rest.items l.initial.slot-iterator.rest.items l.shards
