use Rattle.std.proofs.Common.{rules, ◌≡◌, ◌+◌, ◌*◌, ◌<◌, ℕ, List, [], ◌∷◌, ◌++◌, true, false, ltb, set, map, length, refl, arith, sym, ap, subst, ◌∙◌}
use Rattle.std.specs.Prelude.{All, IsTrue}
use Rattle.std.specs.List.{sum_by}
use Rattle.std.specs.Mem.Slots.{slots_items, slots_filled, slots_len}
use Rattle.std.specs.Vec.{vec_capacity}
use mathlib.Core.Option.{some}
use Rattle.atomic_table.specs.Table.{Me}
use Rattle.arrival_moves.specs.declared.plan.Plan.{Plan}
use Rattle.arrival_moves.specs.Labels.{task_times}
use Rattle.arrival_moves.specs.Plans.{IsPlan, task_count, tasks_of, place_of}
use Rattle.arrival_table.specs.declared.cell.Cell.{Cell}
use Rattle.arrival_table.specs.declared.known.Known.{Known}
use Rattle.arrival_table.specs.declared.table.Merged.{Merged}
use Rattle.arrival_table.specs.Closing.{batch_of, IsWholeBatch, IsBesideFailed}
use Rattle.arrival_table.specs.Models.{ArrivalsModel}
use Rattle.arrival_table.proofs.Closed.{no_items, taken_next_at, closing_first, closing_slot, closing_outcome, closing_room, closing_more, closing_none, closing_search, closing_empty, closing_end, closing_at, end_batches, end_whole, end_once, end_skipped}
use Rattle.arrival_table.proofs.table.Arrivals.close.Goals as goal
use Rattle.arrival_table.proofs.table.Arrivals.close.Goals.{then-has_batch+in-Outcome, else-has_batch+in-Load-1, else-has_batch+in-Outcome-1, else-has_batch+in-Vacant-1}

pub take-requires : goal.take-requires
take-requires g c = let i = c.loop-slot.invariant in let n = c.task_count-count.ensures.value in let a = c.close_with-closed.ensures.counts.1 in let b = c.self.invariant.3 in let s = i.2 in
    let low : c.loop-slot.slot < slots_len c.loop-slot.closed.slots = omega arith in (low, i.0.full c.loop-slot.slot (omega arith) low)

pub loop-slot-preserved : goal.loop-slot-preserved
loop-slot-preserved g c = let i = c.loop-slot.invariant in let t = c.take.ensures.others in (
  taken_next_at c.loop-slot.slot (slots_len c.loop-slot.closed.slots) (slots_len c.take.new.self.slots) (slots_filled c.loop-slot.closed.slots) (slots_filled c.take.new.self.slots) t.2 t.1 i.0,
  t.0 ∙ i.1,
  t.2 ∙ i.2,
)

pub loop-search-init : goal.loop-search-init
loop-search-init g c = let p : Plan = c.args.self.plan in let same : c.self.inside.places ≡ p = ap (λ (a : ArrivalsModel). a.plan) c.self.view_is in let i = c.loop-slot.invariant in let seat = c.into_parts-seat.result.3 in
    let n : task_count c.self.inside.places ≡ task_count p = ap task_count same in let a = c.close_with-closed.ensures.counts.1 in let b = c.self.invariant.3 in let s = i.2 in let count = c.task_count-count.ensures.value in let end = c.loop-slot.auto.slot-end in let more = c.loop-slot-test.false in
    let fits = c.self.invariant.5 in let empty : length c.self.inside.room.items ≡ 0 = search rules in let none : c.self.inside.room.items ≡ [] = no_items c.self.inside.room.items empty in
    closing_at g.R.Labelled.label p 0 0 (slots_items c.loop-slot.closed.slots) (slots_items c.loop-slot.closed.slots) (slots_filled c.loop-slot.closed.slots) (slots_filled c.loop-slot.closed.slots) (slots_len c.loop-slot.closed.slots) (slots_len c.loop-slot.closed.slots) [] c.self.inside.room.items (vec_capacity c.self.inside.room) (vec_capacity c.self.inside.room)
    refl refl refl none refl
    (closing_first g.A.Labelled.label g.R.Labelled.label c.self.inside.table.shared.key p (slots_items c.close_with-closed.result.words) (slots_items c.close_with-closed.result.slots) (slots_items c.loop-slot.closed.slots) (slots_filled c.loop-slot.closed.slots) seat.id seat.me.0 c.args.desk.view
    (slots_len c.loop-slot.closed.slots) (vec_capacity c.self.inside.room) c.loop-slot.slot (c.self.invariant.0 ∙ same) (subst IsPlan same c.self.invariant.1) (ap (λ (m : Me (Cell g.row.A.Denot g.row.R.Denot) Known). m.0) c.into_parts-seat.ensures.seat.1) c.requires.end c.close_with-closed.ensures.values.2 i.1 (omega arith) i.0 (omega arith) (omega arith))

pub take-cell-requires : goal.take-cell-requires
take-cell-requires g c = let p : Plan = c.args.self.plan in let same : c.self.inside.places ≡ p = ap (λ (a : ArrivalsModel). a.plan) c.self.view_is in let q = c.loop-search.search in let m = c.loop-batch.batch in
    let n : task_count c.self.inside.places ≡ task_count p = ap task_count same in let ts : tasks_of c.self.inside.places q ≡ tasks_of p q = ap (λ (z : Plan). tasks_of z q) same in let at : place_of c.self.inside.places q m ≡ place_of p q m = ap (λ (z : Plan). place_of z q m) same in
    let a = c.tasks_of-batch-end.ensures.value in let b = c.loop-batch-test.true in let d = c.place_of.ensures.value in let e = c.task_count-count.ensures.value in
    closing_slot g.R.Labelled.label p (subst IsPlan same c.self.invariant.1) q m (slots_items c.loop-batch.closed.slots) (slots_filled c.loop-batch.closed.slots) (slots_len c.loop-batch.closed.slots) c.loop-batch.merged.items (vec_capacity c.loop-batch.merged) c.loop-batch.invariant
    (c.task_count-count.result + c.task_count-count.result + c.place_of.result) (omega arith) (omega arith)

pub unreachable-requires : goal.unreachable-requires
unreachable-requires g c = let p : Plan = c.args.self.plan in let same : c.self.inside.places ≡ p = ap (λ (a : ArrivalsModel). a.plan) c.self.view_is in let q = c.loop-search.search in let m = c.loop-batch.batch in
    let n : task_count c.self.inside.places ≡ task_count p = ap task_count same in let at : place_of c.self.inside.places q m ≡ place_of p q m = ap (λ (z : Plan). place_of z q m) same in let d = c.place_of.ensures.value in let e = c.task_count-count.ensures.value in
    let o = closing_outcome g.R.Labelled.label p (subst IsPlan same c.self.invariant.1) q m (slots_items c.loop-batch.closed.slots) (slots_filled c.loop-batch.closed.slots) (slots_len c.loop-batch.closed.slots) c.loop-batch.merged.items (vec_capacity c.loop-batch.merged) c.loop-batch.invariant
    (c.task_count-count.result + c.task_count-count.result + c.place_of.result) c.take-cell.result (subst (λ (z : Plan). ltb (m * z.batch) (tasks_of z q) ≡ true) same (sym c.has_batch.ensures ∙ c.if-has_batch.true)) (omega arith) c.take-cell.ensures.value in c.in_default.not-Outcome o.0 o.1

pub push_reserved-requires : goal.push_reserved-requires
push_reserved-requires g c = let p : Plan = c.args.self.plan in let same : c.self.inside.places ≡ p = ap (λ (a : ArrivalsModel). a.plan) c.self.view_is in let q = c.loop-search.search in let m = c.loop-batch.batch in
    let ts : tasks_of c.self.inside.places q ≡ tasks_of p q = ap (λ (z : Plan). tasks_of z q) same in let a = c.tasks_of-batch-end.ensures.value in let b = c.loop-batch-test.true in
    let r : length c.loop-batch.merged.items < vec_capacity c.loop-batch.merged = closing_room g.R.Labelled.label p (subst IsPlan same c.self.invariant.1) q m (slots_items c.loop-batch.closed.slots) (slots_filled c.loop-batch.closed.slots) (slots_len c.loop-batch.closed.slots) c.loop-batch.merged.items (vec_capacity c.loop-batch.merged) c.loop-batch.invariant (omega arith) in
    search rules

pub loop-batch-preserved : goal.loop-batch-preserved
loop-batch-preserved g c = let p : Plan = c.args.self.plan in let same : c.self.inside.places ≡ p = ap (λ (a : ArrivalsModel). a.plan) c.self.view_is in let q = c.loop-search.search in let m = c.loop-batch.batch in
    let n : task_count c.self.inside.places ≡ task_count p = ap task_count same in let ts : tasks_of c.self.inside.places q ≡ tasks_of p q = ap (λ (z : Plan). tasks_of z q) same in let at : place_of c.self.inside.places q m ≡ place_of p q m = ap (λ (z : Plan). place_of z q m) same in
    let a = c.tasks_of-batch-end.ensures.value in let b = c.loop-batch-test.true in let d = c.place_of.ensures.value in let e = c.task_count-count.ensures.value in let j : ℕ = c.task_count-count.result + c.task_count-count.result + c.place_of.result in
    let low : m < tasks_of p q = omega arith in let here : j ≡ task_count p + task_count p + place_of p q m = omega arith in let good : IsPlan p = subst IsPlan same c.self.invariant.1 in
    let cells = slots_items c.loop-batch.closed.slots in let flags = slots_filled c.loop-batch.closed.slots in let slots = slots_len c.loop-batch.closed.slots in let ns = c.loop-batch.merged.items in let room = vec_capacity c.loop-batch.merged in let t = c.take-cell.ensures.others in
    elim c.if-has_batch.branch [
      | then-has_batch+in-Outcome w ↦ closing_at g.R.Labelled.label p q (m + 1) cells (slots_items c.take-cell.new.self.slots) (set flags j false) (slots_filled c.take-cell.new.self.slots) slots (slots_len c.take-cell.new.self.slots) (ns ++ record { search = q; batch = m; result = w.in-Outcome.result } ∷ []) c.if-has_batch.merged.items room (vec_capacity c.if-has_batch.merged)
          t.0 t.1 t.2 (search rules) (search rules)
          (closing_more g.R.Labelled.label p good q m cells flags slots ns room c.loop-batch.invariant j w.in-Outcome.result low (subst (λ (z : Plan). ltb (m * z.batch) (tasks_of z q) ≡ true) same (sym c.has_batch.ensures ∙ w.if-has_batch.true)) here (c.take-cell.ensures.value ∙ ap some w.in-Outcome.is))
      | else-has_batch+in-Load-1 w ↦ closing_at g.R.Labelled.label p q (m + 1) cells (slots_items c.take-cell.new.self.slots) (set flags j false) (slots_filled c.take-cell.new.self.slots) slots (slots_len c.take-cell.new.self.slots) ns c.if-has_batch.merged.items room (vec_capacity c.if-has_batch.merged)
          t.0 t.1 t.2 (search rules) (search rules)
          (closing_none g.R.Labelled.label p good q m cells flags slots ns room c.loop-batch.invariant j low (subst (λ (z : Plan). ltb (m * z.batch) (tasks_of z q) ≡ false) same (sym c.has_batch.ensures ∙ w.if-has_batch.false)) here)
      | else-has_batch+in-Outcome-1 w ↦ closing_at g.R.Labelled.label p q (m + 1) cells (slots_items c.take-cell.new.self.slots) (set flags j false) (slots_filled c.take-cell.new.self.slots) slots (slots_len c.take-cell.new.self.slots) ns c.if-has_batch.merged.items room (vec_capacity c.if-has_batch.merged)
          t.0 t.1 t.2 (search rules) (search rules)
          (closing_none g.R.Labelled.label p good q m cells flags slots ns room c.loop-batch.invariant j low (subst (λ (z : Plan). ltb (m * z.batch) (tasks_of z q) ≡ false) same (sym c.has_batch.ensures ∙ w.if-has_batch.false)) here)
      | else-has_batch+in-Vacant-1 w ↦ closing_at g.R.Labelled.label p q (m + 1) cells (slots_items c.take-cell.new.self.slots) (set flags j false) (slots_filled c.take-cell.new.self.slots) slots (slots_len c.take-cell.new.self.slots) ns c.if-has_batch.merged.items room (vec_capacity c.if-has_batch.merged)
          t.0 t.1 t.2 (search rules) (search rules)
          (closing_none g.R.Labelled.label p good q m cells flags slots ns room c.loop-batch.invariant j low (subst (λ (z : Plan). ltb (m * z.batch) (tasks_of z q) ≡ false) same (sym c.has_batch.ensures ∙ w.if-has_batch.false)) here)
    ]

pub loop-search-preserved : goal.loop-search-preserved
loop-search-preserved g c = let p : Plan = c.args.self.plan in let same : c.self.inside.places ≡ p = ap (λ (a : ArrivalsModel). a.plan) c.self.view_is in let q = c.loop-search.search in let m = c.loop-batch.batch in
    let ts : tasks_of c.self.inside.places q ≡ tasks_of p q = ap (λ (z : Plan). tasks_of z q) same in let a = c.tasks_of-batch-end.ensures.value in let b = c.loop-batch-test.false in let d = c.loop-batch.auto.batch-end in
    closing_search g.R.Labelled.label p (subst IsPlan same c.self.invariant.1) q m (slots_items c.loop-batch.closed.slots) (slots_filled c.loop-batch.closed.slots) (slots_len c.loop-batch.closed.slots) c.loop-batch.merged.items (vec_capacity c.loop-batch.merged) c.loop-batch.invariant (omega arith)

pub free-requires : goal.free-requires
free-requires g c = let p : Plan = c.args.self.plan in let same : c.self.inside.places ≡ p = ap (λ (a : ArrivalsModel). a.plan) c.self.view_is in let qs : c.self.inside.places.searches ≡ p.searches = ap (λ (z : Plan). z.searches) same in let a = c.searches-search-end.ensures in let b = c.loop-search-test.false in let d = c.loop-search.auto.search-end in
    closing_empty g.R.Labelled.label p (subst IsPlan same c.self.invariant.1) c.loop-search.search 0 (slots_items c.loop-search.closed.slots) (slots_filled c.loop-search.closed.slots) (slots_len c.loop-search.closed.slots) c.loop-search.merged.items (vec_capacity c.loop-search.merged) c.loop-search.invariant (omega arith)

pub returns-clause-batches : goal.returns-clause-batches
returns-clause-batches g c = let p : Plan = c.args.self.plan in let same : c.self.inside.places ≡ p = ap (λ (a : ArrivalsModel). a.plan) c.self.view_is in let qs : c.self.inside.places.searches ≡ p.searches = ap (λ (z : Plan). z.searches) same in let a = c.searches-search-end.ensures in let b = c.loop-search-test.false in let d = c.loop-search.auto.search-end in
    let i = c.loop-search.invariant in let cells = slots_items c.loop-search.closed.slots in let ns = c.loop-search.merged.items in let good : IsPlan p = subst IsPlan same c.self.invariant.1 in
    let t = closing_end g.R.Labelled.label p good c.loop-search.search 0 cells (slots_filled c.loop-search.closed.slots) (slots_len c.loop-search.closed.slots) ns (vec_capacity c.loop-search.merged) i (omega arith) refl in
    ap (map batch_of) c.from_vec.ensures ∙ end_batches g.R.Labelled.label p good i.state cells i.end ns t

pub returns-clause-whole : goal.returns-clause-whole
returns-clause-whole g c = let p : Plan = c.args.self.plan in let same : c.self.inside.places ≡ p = ap (λ (a : ArrivalsModel). a.plan) c.self.view_is in let qs : c.self.inside.places.searches ≡ p.searches = ap (λ (z : Plan). z.searches) same in let a = c.searches-search-end.ensures in let b = c.loop-search-test.false in let d = c.loop-search.auto.search-end in
    let i = c.loop-search.invariant in let cells = slots_items c.loop-search.closed.slots in let ns = c.loop-search.merged.items in let good : IsPlan p = subst IsPlan same c.self.invariant.1 in
    let t = closing_end g.R.Labelled.label p good c.loop-search.search 0 cells (slots_filled c.loop-search.closed.slots) (slots_len c.loop-search.closed.slots) ns (vec_capacity c.loop-search.merged) i (omega arith) refl in
    subst (All (IsWholeBatch g.R.Labelled.label p)) (sym c.from_vec.ensures) (end_whole g.R.Labelled.label p good i.state cells i.end ns t)

pub returns-clause-once : goal.returns-clause-once
returns-clause-once g c = let p : Plan = c.args.self.plan in let same : c.self.inside.places ≡ p = ap (λ (a : ArrivalsModel). a.plan) c.self.view_is in let qs : c.self.inside.places.searches ≡ p.searches = ap (λ (z : Plan). z.searches) same in let a = c.searches-search-end.ensures in let b = c.loop-search-test.false in let d = c.loop-search.auto.search-end in
    let i = c.loop-search.invariant in let cells = slots_items c.loop-search.closed.slots in let ns = c.loop-search.merged.items in let good : IsPlan p = subst IsPlan same c.self.invariant.1 in
    let t = closing_end g.R.Labelled.label p good c.loop-search.search 0 cells (slots_filled c.loop-search.closed.slots) (slots_len c.loop-search.closed.slots) ns (vec_capacity c.loop-search.merged) i (omega arith) refl in
    λ k low. ap (sum_by (λ (m : Merged g.row.R.Denot). task_times k (g.R.Labelled.label m.result))) c.from_vec.ensures ∙ end_once g.R.Labelled.label p good i.state cells i.end ns t k low

pub returns-clause-skipped : goal.returns-clause-skipped
returns-clause-skipped g c = let p : Plan = c.args.self.plan in let same : c.self.inside.places ≡ p = ap (λ (a : ArrivalsModel). a.plan) c.self.view_is in let qs : c.self.inside.places.searches ≡ p.searches = ap (λ (z : Plan). z.searches) same in let a = c.searches-search-end.ensures in let b = c.loop-search-test.false in let d = c.loop-search.auto.search-end in
    let i = c.loop-search.invariant in let cells = slots_items c.loop-search.closed.slots in let ns = c.loop-search.merged.items in let good : IsPlan p = subst IsPlan same c.self.invariant.1 in
    let t = closing_end g.R.Labelled.label p good c.loop-search.search 0 cells (slots_filled c.loop-search.closed.slots) (slots_len c.loop-search.closed.slots) ns (vec_capacity c.loop-search.merged) i (omega arith) refl in
    subst (λ (ms : List (Merged g.row.R.Denot)). All (λ (m : Merged g.row.R.Denot). IsTrue (g.R.Labelled.label m.result).skipped → IsBesideFailed g.R.Labelled.label ms m) ms) (sym c.from_vec.ensures) (end_skipped g.R.Labelled.label p good i.state cells i.end ns t)
