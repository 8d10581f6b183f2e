-- A task, a ticket and a batch are in one desk's hand, and the task that the next claim finds is in none.
use Rattle.std.proofs.Common.{Bool, [], length, ◌≡◌, ℕ, ◌+◌, ◌-◌, ◌*◌, ◌/◌, min, ◌<◌, ◌≤◌, true, ◌&&◌, leb, ltb, eqb, get_or, List, sym, refl, ap, ◌∙◌, subst, arith}
use Rattle.std.proofs.lemmas.Bool.{le-ltb, leb-true, eq-eqb, cond-true}
use Rattle.std.proofs.lemmas.List.Sums.{sum_by-le-sum_by}
use mathlib.Core.Option.{some}
use mathlib.Core.Logic.{dite}
use native.Mathlib.Decide.{ℕ_discrete}
use lib.ListN.{get_elem?}
use Rattle.arrival_moves.specs.declared.label.Label.{Label}
use Rattle.arrival_moves.specs.declared.plan.Plan.{Plan}
use Rattle.arrival_moves.specs.declared.view.View.{View}
use Rattle.arrival_moves.specs.declared.item.Item.{Item}
use Rattle.arrival_moves.specs.declared.item.Item.TheVariants.{Claimed, Loaded, Arrived, Put, Batch, Closed}
use Rattle.arrival_moves.specs.Lists.{one_if, times}
use Rattle.arrival_moves.specs.Labels.{task_times}
use Rattle.arrival_moves.specs.Slots.{holds}
use Rattle.arrival_moves.specs.Plans.{task_count, tasks_of, place_of, batch_size, IsPlan}
use Rattle.arrival_moves.specs.Items.{is_arrived, is_batch, is_due, in_item, arrived_at, uncounted_in, batch_at, due_at}
use Rattle.arrival_moves.specs.Hands.{find_item, in_hand, in_hands, HasItem}
use Rattle.arrival_moves.specs.Moves.{ArrivalState}
use Rattle.arrival_moves.specs.Fairness.{everywhere, IsOfSearch}
use Rattle.list_laws.proofs.PlaceSums.{sum_by_pair}
use Rattle.arrival_moves.proofs.NumberLists.{contains_times}
use Rattle.arrival_moves.proofs.OneIf.{one_if_le, one_if_true}
use Rattle.arrival_moves.proofs.Cases.{found_is, exchanged_sum}
use Rattle.arrival_moves.proofs.BatchRanges.{in_batch}
use Rattle.arrival_moves.proofs.Quiet.{lt_one}
use Rattle.arrival_moves.proofs.Words.{drawn_le}
use Rattle.arrival_moves.proofs.Results.{both_none}
use Rattle.arrival_moves.proofs.TaskPlaces.{place_within}
use Rattle.arrival_moves.proofs.LabelsFit.{batch_first, ticket_batch, batch_found, due_now, due_range}
use Rattle.arrival_moves.proofs.Batches.{is_complete, hands_has, held_real}
use Rattle.arrival_moves.proofs.SlotStates.{full_slot, has_slot}
use Rattle.arrival_moves.proofs.Runs.{IsKept}

-- where a number is at most 1 over all hands, one desk has it
one_desk : (f : Item → ℕ) (vs : List View) (i j : ℕ) (v u : View) → in_hands f vs ≤ 1 → get_elem? vs i ≡ some v → get_elem? vs j ≡ some u → 1 ≤ in_hand f v → 1 ≤ in_hand f u → i ≡ j
one_desk f vs i j v u top e d h k = dite (ℕ_discrete j i) (λ same. sym same) (λ other. let a = sum_by_pair (in_hand f) vs i j v u other e d in absurd (omega arith))

-- a desk that has such an item counts it
has_one : (is : Item → Bool) (v : View) → HasItem is v → 1 ≤ in_hand (λ x. one_if (is x)) v
has_one is v x = let a = exchanged_sum (λ y. one_if (is y)) is [] v.hand x.0 x.1 in let b : one_if (is x.0) ≡ 1 = ap one_if (found_is is v.hand x.0 x.1) in omega arith

-- a ticket with its task is not counted
arrived_le : (p : Plan) (q t : ℕ) (x : Item) → arrived_at q t x ≤ uncounted_in p q (t / p.batch) x
arrived_le p q t (Claimed k) = omega arith
arrived_le p q t (Loaded z) = omega arith
arrived_le p q t (Arrived z) = dite (ℕ_discrete z.ticket t)
    (λ same. let a : one_if (eqb z.search q && eqb z.ticket t) ≡ one_if (eqb z.search q && true) = ap (λ y. one_if (eqb z.search q && y)) (eq-eqb z.ticket t same) in let b : one_if (eqb z.search q && eqb (z.ticket / p.batch) (t / p.batch)) ≡ one_if (eqb z.search q && true) = ap (λ y. one_if (eqb z.search q && y)) (eq-eqb (z.ticket / p.batch) (t / p.batch) (ap (λ n. n / p.batch) same)) in omega arith)
    (λ other. let a = both_none z.search z.ticket q t (λ y. other y.1) in omega arith)
arrived_le p q t (Put z) = omega arith
arrived_le p q t (Batch z) = omega arith
arrived_le p q t (Closed z) = omega arith

-- a number that is no greater at each item is none greater in all hands
hands_le : (f g : Item → ℕ) → ((x : Item) → f x ≤ g x) → (vs : List View) → in_hands f vs ≤ in_hands g vs
hands_le f g le vs = sum_by-le-sum_by (in_hand f) (in_hand g) vs (λ v. sum_by-le-sum_by f g v.hand le)

module _ (p : Plan) (good : IsPlan p) (s : ArrivalState) (f : IsKept p s) where
  -- of a batch whose last count was made, each ticket was drawn and its result put
  pub all_put : (q t : ℕ) → t < tasks_of p q → is_complete p s q (t / p.batch) ≡ 1 → (in_hands (arrived_at q t) s.desks ≡ 0) × (t < get_or s.tickets q 0)
  all_put q t range done = let b : ℕ = t / p.batch in let size : batch_size p q b ≤ get_or s.counts (place_of p q b) 0 = leb-true _ _ (one_if_true (leb (batch_size p q b) (get_or s.counts (place_of p q b) 0)) (omega arith)) in
      let a = f.counts.counts q b (ticket_batch p good q t range) in let place = in_batch p good q b t range refl in let le = hands_le (arrived_at q t) (uncounted_in p q b) (arrived_le p q t) s.desks in
      let w = f.words.word q in let d = drawn_le p good q s.claimed in
      let n : ℕ = p.batch in let bn : ℕ = b * n in let m : ℕ = get_or s.tickets q 0 in let k : ℕ = tasks_of p q in let low : bn ≤ t = place.0 in let high : t < bn + min n (k - bn) = place.1 in let room : min n (k - bn) ≤ min n (m - bn) = omega arith in
      let small : min n (m - bn) ≤ min n (k - bn) = omega arith in (omega arith, omega arith)

  -- no two desks have one task
  pub tasks_alone : (i j k : ℕ) (v u : View) → get_elem? s.desks i ≡ some v → get_elem? s.desks j ≡ some u → 1 ≤ in_hand (in_item (task_times k)) v → 1 ≤ in_hand (in_item (task_times k)) u → i ≡ j
  tasks_alone i j k v u e d h m = let a = f.tasks.once k in let b = one_if_le (ltb k s.claimed && ltb k (task_count p)) in one_desk (in_item (task_times k)) s.desks i j v u (omega arith) e d h m

  -- no two desks have one ticket with its task
  pub tickets_alone : (i j q t : ℕ) (v u : View) → get_elem? s.desks i ≡ some v → get_elem? s.desks j ≡ some u → HasItem (is_arrived q t) v → HasItem (is_arrived q t) u → i ≡ j
  tickets_alone i j q t v u e d h m = let a = f.results.below q t in let b = one_if_le (ltb t (get_or s.tickets q 0)) in one_desk (arrived_at q t) s.desks i j v u (omega arith) e d (has_one (is_arrived q t) v h) (has_one (is_arrived q t) u m)

  -- a batch in hand is whole, and its merged result is not put
  pub batch_held : (i q b : ℕ) (v : View) → get_elem? s.desks i ≡ some v → HasItem (is_batch q b) v → (in_hands (batch_at q b) s.desks ≡ 1) × (is_complete p s q b ≡ 1)
  batch_held i q b v e h = let real = held_real p good s f.shape f.labels f.batches i q b v h.0 e h.1 in let y = has_slot s.batches (place_of p q b) (subst (λ z. place_of p q b < z) (sym f.shape.batches) (place_within p q b (batch_first p good q b real))) in
      let a = f.batches.last q b y.0 real y.1 in let c = hands_has (batch_at q b) s.desks i v (is_batch q b) h.0 e h.1 in let d : batch_at q b h.0 ≡ 1 = ap one_if (found_is (is_batch q b) v.hand h.0 h.1) in let k = one_if_le (leb (batch_size p q b) (get_or s.counts (place_of p q b) 0)) in (omega arith, omega arith)

  -- no two desks have one batch
  pub batches_alone : (i j q b : ℕ) (v u : View) → get_elem? s.desks i ≡ some v → get_elem? s.desks j ≡ some u → HasItem (is_batch q b) v → HasItem (is_batch q b) u → i ≡ j
  batches_alone i j q b v u e d h m = let a = (batch_held i q b v e h).0 in one_desk (batch_at q b) s.desks i j v u (omega arith) e d (has_one (is_batch q b) v h) (has_one (is_batch q b) u m)

  -- the number that the next claim finds is nobody's
  pub claim_new : everywhere (task_times s.claimed) s ≡ 0
  claim_new = let a = f.tasks.once s.claimed in let b : one_if (ltb s.claimed s.claimed && ltb s.claimed (task_count p)) ≡ 0 = ap (λ z. one_if (z && ltb s.claimed (task_count p))) (le-ltb s.claimed s.claimed (omega arith)) in omega arith

  -- the result of a ticket that is due lies in its slot, and stands for one task of the search
  pub due_there : (i q t : ℕ) (v : View) (x : Item) → get_elem? s.desks i ≡ some v → find_item (is_batch q (t / p.batch)) v.hand ≡ some x → is_due t x ≡ true → (l : Label) × (get_elem? s.results (place_of p q t) ≡ some (holds l)) × (length l.tasks ≡ 1) × IsOfSearch p q l
  due_there i q t v x e g m = let z = batch_found p good s f.labels i v e q (t / p.batch) x g in let has = due_now t z.0 (subst (λ y. is_due t y ≡ true) z.1 m) in let range : t < tasks_of p q = subst (λ y. t < tasks_of p y) z.2 (due_range p good z.0 t z.4 has).1 in
      let y = has_slot s.results (place_of p q t) (subst (λ n. place_of p q t < n) (sym f.shape.results) (place_within p q t range)) in
      let times_due = contains_times t z.0.due has in let own : due_at q t x ≡ times t z.0.due = ap (due_at q t) z.1 ∙ cond-true _ _ _ (eq-eqb z.0.search q z.2) in let all = hands_has (due_at q t) s.desks i v (is_batch q (t / p.batch)) x e g in
      let a = f.batches.due q t y.0 range y.1 in let b = one_if_le (leb (batch_size p q (t / p.batch)) (get_or s.counts (place_of p q (t / p.batch)) 0)) in
      -- its batch is counted, so it was drawn and is no longer in hand
      let once = f.results.once q t y.0 range y.1 in let full = all_put q t range (batch_held i q (t / p.batch) v e (x, g)).1 in let drawn = lt_one t (get_or s.tickets q 0) full.1 in let away = full.0 in
      let l = full_slot s.results (place_of p q t) y.0 y.1 (omega arith) (omega arith) in let lab = f.labels.results q t l.0 range l.1 in (l.0, l.1, lab.0, lab.1)
