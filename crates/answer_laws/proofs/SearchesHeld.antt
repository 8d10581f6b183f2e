-- A search holds what its results cost, between its tasks and after its merges.
use Rattle.std.specs.Prelude.{◌≡◌, refl, ◌≤◌, ℕ, ◌+◌, ◌-◌, ◌*◌, ◌&&◌, Bool, true, false, List, [], ◌∷◌, ◌++◌, map, sum, Option, Some, None, IsTrue}
use Rattle.std.specs.List.{list_all, AllByRecursion}
use Rattle.std.proofs.Common.{◌∙◌, ap, sym, subst, arith}
use Rattle.std.proofs.lemmas.Int.{ints}
use Rattle.std.proofs.lemmas.List.Sums.{sum-map, sum_by-append, sum_by-cons, sum_by_push}
use Rattle.std.proofs.lemmas.List.Folds.{list_all-append}
use Rattle.list_laws.proofs.Booleans.{holds, true_is}
use Rattle.agg_model.specs.declared.aggregation.Search.{Search}
use Rattle.agg_model.specs.declared.breaker.Child.TheVariants as child
use Rattle.agg_model.specs.declared.breaker.Limits.{Limits}
use Rattle.agg_model.specs.declared.breaker.Tripped.{Tripped}
use Rattle.agg_model.specs.declared.partial.Partial.{Partial}
use Rattle.agg_evaluation.specs.Cost.{cost}
use Rattle.agg_evaluation.specs.Trees.{is_result_of}
use Rattle.agg_evaluation.specs.Whole.{whole}
use Rattle.agg_evaluation.proofs.SearchLaws.{whole-is_result}
use Rattle.agg_evaluation.proofs.TreeLaws.{shard_answer-is_result}
use Rattle.evaluation_laws.proofs.SearchCosts.{whole-saves}
use Rattle.evaluation_laws.proofs.TraceLaws.{trace-never_negative, trace-total}
use Rattle.agg_spec.specs.Charges.{Amounts, Run, run, charge_of, return_of}
use Rattle.agg_spec.specs.Index.{Index, rows_in}
use Rattle.agg_spec.specs.Reduction.{Going, Task, task_of, task_steps, task_ended, task_refused, unless_ended, after_task, after_tasks, after_batch, after_batches, after_last, begun, merged, merge_steps}
use Rattle.agg_spec.proofs.SoloLaws.{run-append}
use Rattle.answer_laws.specs.Held.{HoldsMore, IsPaid, costs_of}
use Rattle.answer_laws.proofs.Held.{granted-before, charge_of-held, return_of-held, amounts-held}

pub task-paid : (index : Index) (search : Search) (shard : ℕ) → IsPaid search (task_of index search shard)
task-paid index search shard = record {
  never_negative = trace-never_negative search (rows_in index shard);
  at_end = trace-total search (rows_in index shard);
  result = true_is _ (shard_answer-is_result search (rows_in index shard));
}

both_true : {a b : Bool} → a ≡ true → b ≡ true → (a && (b && true)) ≡ true
both_true {a} {b} ea eb = ap (λ x. x && (b && true)) ea ∙ ap (λ x. x && true) eb

pub no-more : (h : Amounts) → HoldsMore 0 0 h h
no-more h = record { request = omega arith; fielddata = refl; inflight = omega arith; parent = omega arith }

-- the results of a search that runs
abbrev AreResults : Search → List Partial → Type 0
AreResults search parts = IsTrue (list_all (is_result_of search) parts)

-- unless it was refused, a search holds what its results cost
pub record Stands (search : Search) (base : Amounts) (going : Going) : Type 0 where
  pub held : HoldsMore (costs_of going.batch + costs_of going.results) 0 base going.run.holds
  pub batch : IsTrue (list_all (is_result_of search) going.batch)
  pub results : IsTrue (list_all (is_result_of search) going.results)

abbrev pub StandsUnless : Search → Amounts → Going → Type 0
StandsUnless search base going = going.run.refused ≡ None → Stands search base going

pub stands-begun : (search : Search) (start : Run) → StandsUnless search start.holds (begun start)
stands-begun search start granted = record { held = no-more start.holds; batch = refl; results = refl }

module _ (limits : Limits) (search : Search) (base : Amounts) where
  -- what was refused stays as it is
  unless-stands : (o : Option Tripped) (next going : Going) → going.run.refused ≡ o → StandsUnless search base going
      → (going.run.refused ≡ None → StandsUnless search base next) → StandsUnless search base (unless_ended o next going)
  unless-stands None next going same now later = later same
  unless-stands (Some t) next going same now later = now

  refused-stands : (b : Bool) (shard : ℕ) (t : Tripped) (after : Run) (going : Going) → after.refused ≡ Some t → Stands search base going
      → StandsUnless search base (task_refused limits search b shard t after going)
  refused-stands true shard t after going same now granted = record { held = now.held; batch = now.batch; results = now.results }
  refused-stands false shard t after going same now granted = absurd (let e : Some t ≡ None = sym same ∙ granted in (let no : ⊥ = cc in no))

  ended-stands : (o : Option Tripped) (task : Task) (after : Run) (going : Going) → IsPaid search task → after.refused ≡ o → Stands search base going
      → (after.refused ≡ None → HoldsMore (cost task.answer) 0 going.run.holds after.holds) → StandsUnless search base (task_ended limits search o task after going)
  ended-stands (Some t) task after going paid same now more granted = refused-stands search.partial task.shard t after going same now granted
  ended-stands None task after going paid same now more granted =
      let held = more granted in
      let costs = sum_by_push cost going.batch task.answer in
      let a1 = held.request in let a2 = held.fielddata in let a3 = held.inflight in let a4 = held.parent in
      let b1 = now.held.request in let b2 = now.held.fielddata in let b3 = now.held.inflight in let b4 = now.held.parent in
      record {
        held = record { request = omega (arith, costs); fielddata = a2 ∙ b2; inflight = omega arith; parent = omega (arith, costs) };
        batch = list_all-append (is_result_of search) going.batch (task.answer ∷ []) ∙ both_true now.batch paid.result;
        results = now.results;
      }

  pub task-stands : (going : Going) (task : Task) → IsPaid search task → StandsUnless search base going → StandsUnless search base (after_task limits search going task)
  task-stands going task paid now =
      let after = run limits going.run (task_steps task) in
      unless-stands going.run.refused (task_ended limits search after.refused task after going) going refl now
      (λ none. ended-stands after.refused task after going paid refl (now none)
      (λ granted. amounts-held limits task.amounts going.run going.run.holds 0 (cost task.answer) (no-more going.run.holds)
      (λ n. let above = paid.never_negative n in omega (arith, ints)) (let end = paid.at_end in omega (arith, ints)) granted))

  pub tasks-stand : (going : Going) (tasks : List Task) → AllByRecursion (IsPaid search) tasks → StandsUnless search base going → StandsUnless search base (after_tasks limits search going tasks)
  tasks-stand going [] paid now = now
  tasks-stand going (task ∷ rest) (first, later) now = tasks-stand (after_task limits search going task) rest later (task-stands going task first now)

  -- several results that are held are merged, and what they cost less than before is given back
  merge-held : (parts : List Partial) (r : Run) (c : ℕ) → AreResults search parts → HoldsMore (costs_of parts + c) 0 base r.holds
      → (run limits r (merge_steps limits search parts)).refused ≡ None → HoldsMore (costs_of (merged limits search parts) + c) 0 base (run limits r (merge_steps limits search parts)).holds
  merge-held [] r c are now granted = now
  merge-held (p ∷ []) r c are now granted = now
  merge-held (p ∷ q ∷ rest) r c are now granted =
      let parts = p ∷ q ∷ rest in
      let costs = sum (map cost parts) in
      let kept = cost (whole search parts) in
      let charged = run limits r (charge_of child.Request costs) in
      let apart = run-append limits r (charge_of child.Request costs) (return_of child.Request (2 * costs - kept)) in
      let granted_return : (run limits charged (return_of child.Request (2 * costs - kept))).refused ≡ None = sym (ap (λ (q : Run). q.refused) apart) ∙ granted in
      let granted_charge = granted-before limits charged (return_of child.Request (2 * costs - kept)) granted_return in
      let together : costs ≡ costs_of parts = sum-map cost parts in
      let fewer : kept ≤ costs_of parts = whole-saves search p (q ∷ rest) (holds _ are) in
      let one : costs_of (whole search parts ∷ []) ≡ kept + costs_of [] = sum_by-cons cost (whole search parts) [] in
      let more = charge_of-held limits r costs granted_charge in
      let n1 = now.request in let n2 = now.fielddata in let n3 = now.inflight in let n4 = now.parent in
      let m1 = more.request in let m2 = more.fielddata in let m3 = more.inflight in let m4 = more.parent in
      let less = return_of-held limits charged (2 * costs - kept) granted_charge (omega arith) (omega arith) in
      let l1 = less.request in let l2 = less.fielddata in let l3 = less.inflight in let l4 = less.parent in
      subst (λ (q : Run). HoldsMore (costs_of (whole search parts ∷ []) + c) 0 base q.holds) (sym apart)
      (record { request = omega (arith, one, fewer, together); fielddata = sym l2 ∙ (m2 ∙ n2); inflight = omega arith; parent = omega (arith, one, fewer, together) })

  merged-results : (parts : List Partial) → AreResults search parts → AreResults search (merged limits search parts)
  merged-results [] are = are
  merged-results (p ∷ []) are = are
  merged-results (p ∷ q ∷ rest) are = ap (λ x. x && true) (true_is _ (whole-is_result search (p ∷ q ∷ rest)))

  pub batch-stands : (going : Going) → StandsUnless search base going → StandsUnless search base (after_batch limits search going)
  batch-stands going now =
      let after = run limits going.run (merge_steps limits search going.batch) in
      unless-stands going.run.refused (record going { run = after; batch = []; results = going.results ++ merged limits search going.batch }) going refl now
      (λ none granted.
      let before = now none in
      let more = merge-held going.batch going.run (costs_of going.results) before.batch before.held granted in
      let costs = sum_by-append cost going.results (merged limits search going.batch) in
      let m1 = more.request in let m4 = more.parent in
      record {
        held = record { request = omega (arith, costs); fielddata = more.fielddata; inflight = more.inflight; parent = omega (arith, costs) };
        batch = refl;
        results = list_all-append (is_result_of search) going.results (merged limits search going.batch)
            ∙ (ap (λ x. x && list_all (is_result_of search) (merged limits search going.batch)) before.results ∙ merged-results going.batch before.batch);
      })

  pub batches-stand : (going : Going) (parts : List (List Task)) → AllByRecursion (AllByRecursion (IsPaid search)) parts → StandsUnless search base going
      → StandsUnless search base (after_batches limits search going parts)
  batches-stand going [] paid now = now
  batches-stand going (tasks ∷ rest) (first, later) now =
      batches-stand (after_batch limits search (after_tasks limits search going tasks)) rest later (batch-stands (after_tasks limits search going tasks) (tasks-stand going tasks first now))

  pub last-stands : (going : Going) → StandsUnless search base going → StandsUnless search base (after_last limits search going)
  last-stands going now =
      let after = run limits going.run (merge_steps limits search going.results) in
      unless-stands going.run.refused (record going { run = after; results = merged limits search going.results }) going refl now
      (λ none granted.
      let before = now none in
      let h = before.held in
      let h1 = h.request in let h4 = h.parent in
      let more = merge-held going.results going.run (costs_of going.batch) before.results
      (record { request = omega arith; fielddata = h.fielddata; inflight = h.inflight; parent = omega arith }) granted in
      let m1 = more.request in let m4 = more.parent in
      record {
        held = record { request = omega arith; fielddata = more.fielddata; inflight = more.inflight; parent = omega arith };
        batch = before.batch;
        results = merged-results going.results before.results;
      })
