use Rattle.std.proofs.Common.{◌+◌, sym, ◌∙◌, ap, slice_get, drop}
use Rattle.agg_reading.specs.Store.{live_documents}
use Rattle.agg_documents.specs.Slots.{entries_of}
use Rattle.agg_documents.proofs.Entries.{get-none, get-some, get-here, get-end}
use Rattle.agg_documents.proofs.store.Store.get.Goals.{in-Some+else-left-eq0, in_default}
use Rattle.agg_documents.proofs.store.Store.get.Goals as goal

pub returns-then-left-eq0 : goal.returns-then-left-eq0
returns-then-left-eq0 c =
    get-here c.as_slice-slot-items.result.now c.loop-slot.slot-index c.slot-item.result c.in-Some.document.now c.loop-slot-test.true c.slot-item.is (sym c.in-Some.ensures)
    ∙ (ap (slice_get (live_documents (entries_of (drop c.loop-slot.slot-index c.as_slice-slot-items.result.now)))) (sym c.if-left-eq0.true)
    ∙ c.loop-slot.invariant)

pub loop-slot-preserved : goal.loop-slot-preserved
loop-slot-preserved c =
    let later = live_documents (entries_of (drop (c.loop-slot.slot-index + 1) c.as_slice-slot-items.result.now)) in
    elim c.match-document.branch [
      | in-Some+else-left-eq0 w ↦ ap (slice_get later) w.left-is
          ∙ (get-some c.as_slice-slot-items.result.now c.loop-slot.slot-index c.slot-item.result w.in-Some.document.now c.loop-slot.left c.loop-slot-test.true c.slot-item.is (sym w.in-Some.ensures) w.if-left-eq0.false
          ∙ c.loop-slot.invariant)
      | in_default w ↦ ap (slice_get later) w.left-is
          ∙ (get-none c.as_slice-slot-items.result.now c.loop-slot.slot-index c.slot-item.result c.loop-slot.left c.loop-slot-test.true c.slot-item.is (sym w.in_default.ensures)
          ∙ c.loop-slot.invariant)
    ]

pub returns : goal.returns
returns c = get-end c.as_slice-slot-items.result.now c.loop-slot.slot-index c.loop-slot.left c.loop-slot-test.false ∙ c.loop-slot.invariant
