use Rattle.std.proofs.Common.{◌≡◌, ℕ, suc, ◌+◌, ◌-◌, ◌*◌, ◌/◌, ◌<◌, ◌≤◌, List, length, refl, sym, ap, ◌∙◌, subst, arith}
use Rattle.std.specs.List.{AllByRecursion}
use Rattle.arrival_moves.specs.declared.plan.Plan.{Plan}
use Rattle.arrival_moves.specs.declared.view.View.{View}
use Rattle.arrival_moves.specs.Fairness.{IsOfSearch}
use Rattle.arrival_moves.specs.Labels.{no_label}
use Rattle.arrival_moves.specs.Plans.{search_of}
use Rattle.arrival_table.specs.Models.{DeskModel}
use Rattle.pool_results.specs.declared.taken.Taken.{Taken}
use Rattle.pool_results.specs.Carried.{AreRuns, label_of}
use Rattle.pool_results.specs.Pools.{Pool, task_number}
use Rattle.pool_results.specs.declared.work.Work.{Work}
use Rattle.pool_worker.specs.Plans.{plan_of}
use Rattle.pool_worker.proofs.Gathering.{IsGathering, batch-at, batch_hand, gathering-begun, gathering-due, gathering-has, gathering-new, gathering-next, has-batch, is-due, one-run, search-of-work, whole-empty, whole-has, whole-label}
use Rattle.pool_worker.proofs.Tasks.{search-is}
use Rattle.pool_worker.proofs.merging.merge.Goals as goal

-- the batch of its first ticket, and of a later one
at-first : (plan : Plan) (p : Pool) (size b count : ℕ) → plan ≡ plan_of p size → 1 ≤ count → count ≤ size → b * size / plan.batch ≡ b
at-first plan p size b count is some within =
    let m : ℕ = b * size in
    ap (λ n. n / plan.batch) (let e : m ≡ m + 0 = omega arith in e) ∙ batch-at plan size b 0 (ap (λ (z : Plan). z.batch) is) (omega (arith, some, within))

at-ticket : (plan : Plan) (p : Pool) (size q b count ticket : ℕ) (t : Taken) (v : View) → plan ≡ plan_of p size → count ≤ size → IsGathering p q b (b * size) count ticket t v → ticket < b * size + count → ticket / plan.batch ≡ b
at-ticket plan p size q b count ticket t v is within g more =
    let m : ℕ = b * size in let many : m + length t.runs ≡ ticket = g.many in
    ap (λ n. n / plan.batch) (sym many) ∙ batch-at plan size b (length t.runs) (ap (λ (z : Plan). z.batch) is) (omega (arith, many, more, within))

-- all tickets are there at the beginning
first-hand : (q b first count : ℕ) (v : View) → 1 ≤ count → batch_hand q b first count no_label v → batch_hand q b first (suc (count - 1)) no_label v
first-hand q b first count v some hand = subst (λ n. batch_hand q b first n no_label v) (let e : count ≡ suc (count - 1) = omega (arith, some) in e) hand

-- a result is of the batch's search
work-search : (plan : Plan) (p : Pool) (size q : ℕ) (w : Work) → plan ≡ plan_of p size → AreRuns p w.search w.runs → length (label_of p w).tasks ≡ 1 → IsOfSearch plan q (label_of p w) → w.search ≡ q
work-search plan p size q w is runs one of =
    search-of-work plan p q w runs.shards runs.search (λ r s h k. subst (λ (z : Plan). search_of z (task_number p r s) ≡ r) (sym is) (search-is p size r s h k)) one of

pub take_result-one-requires-clause-batch : goal.take_result-one-requires-clause-batch
take_result-one-requires-clause-batch g c =
    let p = g.J.PoolCall.pool in let b = c.args.batch in let size = c.args.size in let v = c.args.desk.now.view in
    has-batch c.args.table.now.plan c.args.search b (b * size) (c.args.count - 1) no_label v (first-hand c.args.search b (b * size) c.args.count v c.requires.some c.requires.held)
    (at-first c.args.table.now.plan p size b c.args.count c.requires.plan c.requires.some c.requires.within)

pub take_result-one-requires-clause-due : goal.take_result-one-requires-clause-due
take_result-one-requires-clause-due g c =
    let p = g.J.PoolCall.pool in let b = c.args.batch in let size = c.args.size in let v = c.args.desk.now.view in
    is-due c.args.table.now.plan c.args.search b (b * size) (c.args.count - 1) no_label v (first-hand c.args.search b (b * size) c.args.count v c.requires.some c.requires.held)
    (at-first c.args.table.now.plan p size b c.args.count c.requires.plan c.requires.some c.requires.within)

pub loop-ticket-init : goal.loop-ticket-init
loop-ticket-init g c =
    let p = g.J.PoolCall.pool in let plan = c.args.table.now.plan in let q = c.args.search in let b = c.args.batch in let size = c.args.size in let count = c.args.count in
    let first : ℕ = b * size in let some = c.requires.some in
    let w = c.take_result-one.result.work in let one = c.take_result-one.ensures.one in
    record {
      of = ap (λ (d : DeskModel). d.table) c.take_result-one.ensures.desk ∙ c.requires.of;
      gathering = gathering-begun plan p q b (b * size) count c.args.desk.now.view c.take_result-one.new.desk.view w c.begin-gathered.result.taken c.requires.held c.requires.some
          (at-first plan p size b count c.requires.plan c.requires.some c.requires.within) (ap (λ (d : DeskModel). d.view) c.take_result-one.ensures.desk)
          (work-search plan p size q w c.requires.plan c.take_result-one.result.carried.runs one c.take_result-one.ensures.search) c.begin-gathered.ensures
          (one-run p q w (work-search plan p size q w c.requires.plan c.take_result-one.result.carried.runs one c.take_result-one.ensures.search) one);
      left = refl;
      drawn = refl;
      ended = refl;
      within = omega (arith, some);
    }

pub take_result-result-requires-clause-batch : goal.take_result-result-requires-clause-batch
take_result-result-requires-clause-batch g c =
    let p = g.J.PoolCall.pool in let plan = c.args.table.now.plan in let q = c.args.search in let b = c.args.batch in let size = c.args.size in let count = c.args.count in
    let t = c.loop-ticket.gathered.taken in let v = c.loop-ticket.desk.view in let m = c.loop-ticket.invariant.gathering in
    gathering-has plan p q b (b * size) count c.loop-ticket.ticket t v m c.loop-ticket-test.true (at-ticket plan p size q b count c.loop-ticket.ticket t v c.requires.plan c.requires.within m c.loop-ticket-test.true)

pub take_result-result-requires-clause-due : goal.take_result-result-requires-clause-due
take_result-result-requires-clause-due g c =
    let p = g.J.PoolCall.pool in let plan = c.args.table.now.plan in let q = c.args.search in let b = c.args.batch in let size = c.args.size in let count = c.args.count in
    let t = c.loop-ticket.gathered.taken in let v = c.loop-ticket.desk.view in let m = c.loop-ticket.invariant.gathering in
    gathering-due plan p q b (b * size) count c.loop-ticket.ticket t v m c.loop-ticket-test.true (at-ticket plan p size q b count c.loop-ticket.ticket t v c.requires.plan c.requires.within m c.loop-ticket-test.true)

pub add-gathered-requires-clause-search : goal.add-gathered-requires-clause-search
add-gathered-requires-clause-search g c =
    let p = g.J.PoolCall.pool in let plan = c.args.table.now.plan in
    work-search plan p c.args.size c.args.search c.take_result-result.result.work c.requires.plan c.take_result-result.result.carried.runs c.take_result-result.ensures.one c.take_result-result.ensures.search
    ∙ sym c.loop-ticket.invariant.gathering.of.search

pub add-gathered-requires-clause-new : goal.add-gathered-requires-clause-new
add-gathered-requires-clause-new g c =
    let p = g.J.PoolCall.pool in let plan = c.args.table.now.plan in let q = c.args.search in let b = c.args.batch in let size = c.args.size in let count = c.args.count in
    let t = c.loop-ticket.gathered.taken in let v = c.loop-ticket.desk.view in let m = c.loop-ticket.invariant.gathering in let w = c.take_result-result.result.work in
    gathering-new plan p q b (b * size) count c.loop-ticket.ticket t v m c.loop-ticket-test.true (at-ticket plan p size q b count c.loop-ticket.ticket t v c.requires.plan c.requires.within m c.loop-ticket-test.true) w
    (work-search plan p size q w c.requires.plan c.take_result-result.result.carried.runs c.take_result-result.ensures.one c.take_result-result.ensures.search) c.take_result-result.ensures.new

pub loop-ticket-preserved : goal.loop-ticket-preserved
loop-ticket-preserved g c =
    let p = g.J.PoolCall.pool in let plan = c.args.table.now.plan in let q = c.args.search in let b = c.args.batch in let size = c.args.size in let count = c.args.count in
    let t = c.loop-ticket.gathered.taken in let v = c.loop-ticket.desk.view in let m = c.loop-ticket.invariant.gathering in let w = c.take_result-result.result.work in
    let one = c.take_result-result.ensures.one in let more = c.loop-ticket-test.true in
    let is = work-search plan p size q w c.requires.plan c.take_result-result.result.carried.runs one c.take_result-result.ensures.search in
    let now = ap (λ (d : DeskModel). d.view) c.take_result-result.ensures.desk in
    record {
      of = ap (λ (d : DeskModel). d.table) c.take_result-result.ensures.desk ∙ c.loop-ticket.invariant.of;
      gathering = gathering-next plan p q b (b * size) count c.loop-ticket.ticket t v m more (at-ticket plan p size q b count c.loop-ticket.ticket t v c.requires.plan c.requires.within m more)
          c.take_result-result.new.desk.view w c.add-gathered.result.taken now is c.add-gathered.ensures (one-run p q w is one);
      left = ap (λ (u : View). u.left) now ∙ c.loop-ticket.invariant.left;
      drawn = ap (λ (u : View). u.drawn) now ∙ c.loop-ticket.invariant.drawn;
      ended = ap (λ (u : View). u.ended) now ∙ c.loop-ticket.invariant.ended;
      within = (let k : ℕ = b * size in omega (arith, more));
    }

-- at the end all were gathered
end-gathering : (p : Pool) (q b first count ticket : ℕ) (t : Taken) (v : View) → ticket ≤ first + count → first + count ≤ ticket → IsGathering p q b first count ticket t v → IsGathering p q b first count (first + count) t v
end-gathering p q b first count ticket t v le ge g = subst (λ n. IsGathering p q b first count n t v) (let e : ticket ≡ first + count = omega (arith, le, ge) in e) g

pub put_merged-requires-clause-batch : goal.put_merged-requires-clause-batch
put_merged-requires-clause-batch g c =
    let p = g.J.PoolCall.pool in let q = c.args.search in let b = c.args.batch in let count = c.args.count in let first : ℕ = b * c.args.size in
    let last = c.loop-ticket-test.false in
    whole-has p q b (b * c.args.size) count c.loop-ticket.gathered.taken c.loop-ticket.desk.view
    (end-gathering p q b (b * c.args.size) count c.loop-ticket.ticket c.loop-ticket.gathered.taken c.loop-ticket.desk.view c.loop-ticket.invariant.within (omega (arith, last)) c.loop-ticket.invariant.gathering)

pub put_merged-requires-clause-label : goal.put_merged-requires-clause-label
put_merged-requires-clause-label g c =
    let p = g.J.PoolCall.pool in let q = c.args.search in let b = c.args.batch in let count = c.args.count in let first : ℕ = b * c.args.size in
    let last = c.loop-ticket-test.false in
    whole-label p q b (b * c.args.size) count c.loop-ticket.gathered.taken c.loop-ticket.desk.view
    (end-gathering p q b (b * c.args.size) count c.loop-ticket.ticket c.loop-ticket.gathered.taken c.loop-ticket.desk.view c.loop-ticket.invariant.within (omega (arith, last)) c.loop-ticket.invariant.gathering)
    c.finish-merged.result.work c.finish-merged.ensures.search c.finish-merged.ensures.runs c.finish-merged.ensures.failed c.finish-merged.ensures.skipped

pub returns-clause-empty : goal.returns-clause-empty
returns-clause-empty g c =
    let p = g.J.PoolCall.pool in let q = c.args.search in let b = c.args.batch in let count = c.args.count in let first : ℕ = b * c.args.size in
    let last = c.loop-ticket-test.false in
    let whole = end-gathering p q b (b * c.args.size) count c.loop-ticket.ticket c.loop-ticket.gathered.taken c.loop-ticket.desk.view c.loop-ticket.invariant.within (omega (arith, last)) c.loop-ticket.invariant.gathering in
    ap (λ (d : DeskModel). d.view.hand) c.put_merged.ensures ∙ whole-empty p q b (b * c.args.size) count c.loop-ticket.gathered.taken c.loop-ticket.desk.view whole
