-- Where a desk is whole and ended and has nothing in hand, every batch's merged result lies in its slot.
use Rattle.std.proofs.Common.{◌≡◌, ℕ, suc, ◌+◌, ◌/◌, ◌<◌, ◌≤◌, ⊎_elim, cond, ◌&&◌, eqb, ltb, get_or, List, [], ◌∷◌, length, sym, refl, ap, ◌∙◌, subst, arith}
use Rattle.std.specs.List.{sum_by}
use Rattle.std.specs.Prelude.{IsTrue}
use Rattle.std.proofs.lemmas.Bool.{and_from, lt-ltb, le-leb, eqb-true, eq-eqb, cond-true}
use Rattle.std.proofs.lemmas.List.{take_all}
use Rattle.std.proofs.lemmas.List.Sums.{sum_by-cons}
use mathlib.Core.Option.{some, some-injective}
use mathlib.Core.Logic.{dite}
use native.Mathlib.Decide.{ℕ_discrete}
use lib.ListN.{get_elem?}
use Rattle.arrival_moves.specs.declared.label.Label.{Label}
use Rattle.arrival_moves.specs.declared.plan.Plan.{Plan}
use Rattle.arrival_moves.specs.declared.view.View.{View}
use Rattle.arrival_moves.specs.declared.item.Item.{Item}
use Rattle.arrival_moves.specs.Lists.{one_if, times}
use Rattle.arrival_moves.specs.Labels.{task_times}
use Rattle.arrival_moves.specs.Slots.{Slot, holds, in_slot, in_slots}
use Rattle.arrival_moves.specs.Plans.{task_count, tasks_of, drawn_of, place_of, tickets_in, batch_size, IsPlan}
use Rattle.arrival_moves.specs.Items.{in_item, waiting_of, uncounted_in, batch_at, due_at, closed_at}
use Rattle.arrival_moves.specs.Hands.{in_hand, in_hands}
use Rattle.arrival_moves.specs.Moves.{ArrivalState}
use Rattle.arrival_moves.specs.Fairness.{everywhere, IsOfSearch, of_search, failed_tasks, skipped_tasks}
use Rattle.arrival_moves.specs.Closing.{IsAtEnd, IsMergedAt}
use Rattle.list_laws.proofs.PlaceSums.{Each, sum_by_has, sum_by_pair}
use Rattle.list_laws.proofs.Places.{there_below}
use Rattle.arrival_moves.proofs.Each.{each_tail}
use Rattle.arrival_moves.proofs.BatchRanges.{batch_some}
use Rattle.arrival_moves.proofs.TaskPlaces.{place_within, place_at}
use Rattle.arrival_moves.proofs.LabelsFit.{IsBatch, batch_first, ticket_batch}
use Rattle.arrival_moves.proofs.SlotStates.{emptied_none, full_slot, full_of, has_slot}
use Rattle.arrival_moves.proofs.Batches.{is_complete}
use Rattle.arrival_moves.proofs.Stops.{some_of, cond_some, of_all}
use Rattle.arrival_moves.proofs.Runs.{IsKept}

-- empty hands, empty sums
none_in_hands : (f : Item → ℕ) (vs : List View) → Each (λ (v : View). v.hand ≡ []) vs → in_hands f vs ≡ 0
none_in_hands f [] h = refl
none_in_hands f (v ∷ vs) h = let a = sum_by-cons (in_hand f) v vs in let b : in_hand f v ≡ 0 = ap (sum_by f) (h 0 v refl) in let c = none_in_hands f vs (each_tail (λ (w : View). w.hand ≡ []) v vs h) in omega arith

-- slots that hold nothing add up to nothing
none_in_slots : (f : Label → ℕ) (xs : List Slot) → Each (λ y. in_slot f y ≡ 0) xs → in_slots f xs ≡ 0
none_in_slots f [] h = refl
none_in_slots f (y ∷ ys) h = let a = sum_by-cons (in_slot f) y ys in let b = h 0 y refl in let c = none_in_slots f ys (each_tail (λ z. in_slot f z ≡ 0) y ys h) in omega arith

-- where the sum is not 0, some slot is full and its number is not 0
some_slot : (f : Label → ℕ) (xs : List Slot) → 1 ≤ in_slots f xs → (j : ℕ) × (l : Label) × (get_elem? xs j ≡ some (holds l)) × (1 ≤ f l)
some_slot f [] h = absurd (omega arith)
some_slot f (y ∷ ys) h = let a = sum_by-cons (in_slot f) y ys in ⊎_elim
    (λ (z : 1 ≤ in_slot f y). let l = full_of f y z in (0, l.0, ap some l.1, l.2))
    (λ (z : 1 ≤ in_slots f ys). let r = some_slot f ys z in (suc r.0, r.1, r.2, r.3))
    (some_of (in_slot f y) (in_slots f ys) (omega arith))

module _ (p : Plan) (good : IsPlan p) (s : ArrivalState) (f : IsKept p s) (i : ℕ) (v : View) (e : get_elem? s.desks i ≡ some v) (at : IsAtEnd v) where
  -- no other desk has made a claim, so no hand holds anything
  no_hands : Each (λ (u : View). u.hand ≡ []) s.desks
  no_hands j u d = dite (ℕ_discrete j i)
      (λ same. let is : v ≡ u = some-injective v u (sym e ∙ (ap (get_elem? s.desks) (sym same) ∙ d)) in subst (λ (w : View). w.hand ≡ []) is at.bare)
      (λ other. let a = sum_by_pair (λ (w : View). w.left + w.drawn) s.desks i j v u other e d in let b = f.claims.whole in let c = at.whole in f.claims.idle j u d (omega arith))

  -- every number of the hands is 0
  pub no_items : (h : Item → ℕ) → in_hands h s.desks ≡ 0
  no_items h = none_in_hands h s.desks no_hands

  -- every task is claimed
  all_claimed : task_count p ≤ s.claimed
  all_claimed = f.claims.ended i v e at.ended

  -- and has arrived
  pub all_arrived : (q : ℕ) → get_or s.tickets q 0 ≡ tasks_of p q
  all_arrived q = let a = f.words.word q in let b = no_items (waiting_of p q) in let c : drawn_of p q s.claimed ≡ tasks_of p q = ap (times q) (take_all s.claimed p.tasks all_claimed) in omega arith

  -- and its batch is counted
  all_counted : (q b : ℕ) → IsBatch p q b → is_complete p s q b ≡ 1
  all_counted q b real = let a = f.counts.counts q b real in let c = no_items (uncounted_in p q b) in let d : tickets_in p b (get_or s.tickets q 0) ≡ batch_size p q b = ap (tickets_in p b) (all_arrived q) in ap one_if (le-leb (batch_size p q b) (get_or s.counts (place_of p q b) 0) (omega arith))

  -- every batch's merged result is there
  pub merged_there : (q b : ℕ) → IsBatch p q b → (l : Label) × (get_elem? s.batches (place_of p q b) ≡ some (holds l)) × (length l.tasks ≡ batch_size p q b) × IsOfSearch p q l
  merged_there q b real = let y = has_slot s.batches (place_of p q b) (subst (λ z. place_of p q b < z) (sym f.shape.batches) (place_within p q b (batch_first p good q b real))) in
      let a = f.batches.last q b y.0 real y.1 in let c = no_items (batch_at q b) in let d = all_counted q b real in let k = f.batches.closed q b y.0 real y.1 in let n = no_items (closed_at q b) in
      let l = full_slot s.batches (place_of p q b) y.0 y.1 (omega arith) (omega arith) in let lab = f.labels.batches q b l.0 real l.1 in (l.0, l.1, lab.0, lab.1)

  -- and every result was taken
  no_results : (h : Label → ℕ) → in_slots h s.results ≡ 0
  no_results h = none_in_slots h s.results (λ j y d. let low = there_below s.results j y d in let place = place_at p good j (subst (λ n. j < n) f.shape.results low) in let q : ℕ = place.0 in let t : ℕ = place.1 in
      let a = f.batches.due q t y place.2 (ap (get_elem? s.results) (sym place.3) ∙ d) in let b = no_items (due_at q t) in let c = all_counted q (t / p.batch) (ticket_batch p good q t place.2) in emptied_none h y (omega arith))

  -- whatever there is lies in the slots of merged results
  all_merged : (h : Label → ℕ) → everywhere h s ≡ in_slots h s.batches
  all_merged h = let a = no_items (in_item h) in let b = no_results h in omega arith

  -- these have each task once
  pub merged_once : (k : ℕ) → k < task_count p → in_slots (task_times k) s.batches ≡ 1
  merged_once k low = let a = f.tasks.once k in let b = all_merged (task_times k) in let all = all_claimed in let c : one_if (ltb k s.claimed && ltb k (task_count p)) ≡ 1 = ap one_if (and_from _ _ (lt-ltb k s.claimed (omega arith)) (lt-ltb k (task_count p) low)) in omega arith

  -- a full slot with a failed task of q is that of a batch of q
  failed_slot : (q j : ℕ) (m : Label) → get_elem? s.batches j ≡ some (holds m) → 1 ≤ failed_tasks p q m → (c : ℕ) × (n : Label) × IsBatch p q c × IsMergedAt p s q c n × IsTrue n.failed
  failed_slot q j m e h = let place = place_at p good j (subst (λ n. j < n) f.shape.batches (there_below s.batches j (holds m) e)) in failed_place q place.0 place.1 j m place.2 place.3 e h
    where
      failed_place : (q r t j : ℕ) (m : Label) → t < tasks_of p r → j ≡ place_of p r t → get_elem? s.batches j ≡ some (holds m) → 1 ≤ failed_tasks p q m → (c : ℕ) × (n : Label) × IsBatch p q c × IsMergedAt p s q c n × IsTrue n.failed
      failed_place q r t j m low at_place e h = let there : IsMergedAt p s r t m = ap (get_elem? s.batches) (sym at_place) ∙ e in let real = f.labels.real r t m low there in let lab = f.labels.batches r t m real there in
          let parts = cond_some m.failed (of_search p q m.tasks) h in let all : of_search p q m.tasks ≡ cond (eqb r q) (length m.tasks) 0 = of_all p good r q m.tasks (λ k y. (lab.1 k y).1) in
          let same : r ≡ q = eqb-true r q (cond_some (eqb r q) (length m.tasks) (subst (λ n. 1 ≤ n) all parts.1)).0 in (t, m, subst (λ n. IsBatch p n t) same real, subst (λ n. IsMergedAt p s n t m) same there, parts.0)

  some_failed : (q : ℕ) → 1 ≤ in_slots (failed_tasks p q) s.batches → (c : ℕ) × (n : Label) × IsBatch p q c × IsMergedAt p s q c n × IsTrue n.failed
  some_failed q h = let r = some_slot (failed_tasks p q) s.batches h in failed_slot q r.0 r.1 r.2 r.3

  -- and where one is skipped, one of its search failed
  pub merged_failed : (q b : ℕ) (l : Label) → IsBatch p q b → IsMergedAt p s q b l → IsTrue l.skipped → (c : ℕ) × (n : Label) × IsBatch p q c × IsMergedAt p s q c n × IsTrue n.failed
  merged_failed q b l real there skipped = let lab = f.labels.batches q b l real there in let own : of_search p q l.tasks ≡ cond (eqb q q) (length l.tasks) 0 = of_all p good q q l.tasks (λ k y. (lab.1 k y).1) in
      let same : cond (eqb q q) (length l.tasks) 0 ≡ length l.tasks = cond-true _ _ _ (eq-eqb q q refl) in let size = batch_some p good q b real in let len = lab.0 in
      let one : skipped_tasks p q l ≡ of_search p q l.tasks = cond-true _ _ _ skipped in let has = sum_by_has (in_slot (skipped_tasks p q)) s.batches (place_of p q b) (holds l) there in let all = all_merged (skipped_tasks p q) in
      let word = f.stops.skipped q (omega arith) in let a = f.stops.failed q word in let b = all_merged (failed_tasks p q) in some_failed q (omega arith)
