-- A batch whose last count was made is in one hand until its merged result was put, and its tickets are due until their
-- results are taken.
use Rattle.std.proofs.Common.{◌≡◌, ◌≢◌, ℕ, ◌+◌, ◌-◌, ◌*◌, ◌/◌, ◌<◌, ◌≤◌, min, ⊎_elim, Bool, true, false, ◌&&◌, eqb, leb, get_or, List, [], ◌∷◌, length, set, sym, refl, ap, ◌∙◌, subst, arith, get_or-set_same, get_or-set_other}
use Rattle.std.specs.List.{sum_by}
use Rattle.std.proofs.lemmas.Bool.{le-leb, lt-leb, eq-eqb, ne_eqb, cond-true, cond-false, cases_Bool}
use Rattle.std.proofs.lemmas.List.Sums.{sum_by-cons}
use mathlib.Core.Option.{some}
use mathlib.Core.Logic.{dite}
use native.Mathlib.Decide.{ℕ_discrete}
use lib.ListN.{get_elem?}
use Rattle.arrival_moves.specs.declared.label.Label.{Label}
use Rattle.arrival_moves.specs.declared.plan.Plan.{Plan}
use Rattle.arrival_moves.specs.declared.view.View.{View}
use Rattle.arrival_moves.specs.declared.item.Item.{Item}
use Rattle.arrival_moves.specs.declared.item.Item.TheVariants.{Claimed, Loaded, Arrived, Put, Batch, Closed}
use Rattle.arrival_moves.specs.declared.item.HeldBatch.{HeldBatch}
use Rattle.arrival_moves.specs.Lists.{one_if, times, without, numbers_from}
use Rattle.arrival_moves.specs.Labels.{no_label}
use Rattle.arrival_moves.specs.Slots.{Slot, fresh, reached, holds, emptied, was_put}
use Rattle.arrival_moves.specs.Plans.{task_count, tasks_of, place_of, batch_size, IsPlan}
use Rattle.arrival_moves.specs.Items.{is_put, is_batch, is_at_slot, is_due, uncounted_in, batch_at, due_at, merging_at, closed_at}
use Rattle.arrival_moves.specs.Hands.{find_item, exchanged, in_hands}
use Rattle.arrival_moves.specs.AfterMove.{after_count, after_take_result, after_reach_batch, after_put_merged, after_close, reached_item, batch_due, taken_from}
use Rattle.arrival_moves.specs.Guards.{may_put_merged}
use Rattle.arrival_moves.specs.Moves.{ArrivalState, Move, claim, take_task, arrive, put, count, take_result, put_merged, split, join, close, stop, stopped, move, opened}
use Rattle.list_laws.proofs.Places.{at_set}
use Rattle.arrival_moves.proofs.OneIf.{one_if_le, one_if_never, one_if_always, one_if_fewer}
use Rattle.arrival_moves.proofs.SlotStates.{is_reached, was_emptied, not_emptied, none_but, put_or_reached, has_slot, first_slot}
use Rattle.arrival_moves.proofs.NumberLists.{times_without}
use Rattle.arrival_moves.proofs.BatchRanges.{batch_times, batch_some}
use Rattle.arrival_moves.proofs.Cases.{desk_keeps, item_keeps, by_label, hands_exchanged}
use Rattle.list_laws.proofs.PlaceTests.{by_test}
use Rattle.arrival_moves.proofs.CloseGuards.{close_guard}
use Rattle.arrival_moves.proofs.Items.{hands_more, put_gives}
use Rattle.arrival_moves.specs.Fairness.{HasShape}
use Rattle.arrival_moves.proofs.Quiet.{eq_one, eq_none}
use Rattle.arrival_moves.proofs.Words.{WordsFit, drawn_le, zeros}
use Rattle.arrival_moves.proofs.TaskPlaces.{places_apart, place_within}
use Rattle.arrival_moves.proofs.Results.{ResultsFit, both_one, both_none}
use Rattle.arrival_moves.proofs.Reached.{hands_rest}
use Rattle.arrival_moves.proofs.Counts.{CountsFit, counted}
use Rattle.arrival_moves.proofs.LabelsFit.{LabelsFit, HeldFits, IsBatch, batch_found, batch_first, ticket_batch, due_now, due_range, none_due}
use Rattle.arrival_moves.proofs.Unbatched.{Unbatched, IsOfBatches, unbatched_claim, unbatched_take_task, unbatched_arrive, unbatched_put, unbatched_split, unbatched_join, unbatched_stop, unbatched_stopped}

-- the last count of the batch b of q was made
abbrev pub is_complete : Plan → ArrivalState → ℕ → ℕ → ℕ
is_complete p s q b = one_if (leb (batch_size p q b) (get_or s.counts (place_of p q b) 0))

pub record BatchesKept (p : Plan) (s : ArrivalState) : Type 0 where
  pub last : (q b : ℕ) (x : Slot) → IsBatch p q b → get_elem? s.batches (place_of p q b) ≡ some x → in_hands (batch_at q b) s.desks + was_put x ≡ is_complete p s q b
  pub due : (q t : ℕ) (x : Slot) → t < tasks_of p q → get_elem? s.results (place_of p q t) ≡ some x → in_hands (due_at q t) s.desks + was_emptied x ≡ is_complete p s q (t / p.batch)
  pub merging : (q b : ℕ) (x : Slot) → IsBatch p q b → get_elem? s.batches (place_of p q b) ≡ some x → in_hands (merging_at q b) s.desks ≡ is_reached x
  pub closed : (q b : ℕ) (x : Slot) → IsBatch p q b → get_elem? s.batches (place_of p q b) ≡ some x → in_hands (closed_at q b) s.desks ≡ was_emptied x

-- these four count batches and merged results alone
batch_alone : (q b : ℕ) → IsOfBatches (batch_at q b)
batch_alone q b = record { claimed = λ k. refl; loaded = λ z. refl; arrived = λ z. refl; put = λ z. refl }

due_alone : (q t : ℕ) → IsOfBatches (due_at q t)
due_alone q t = record { claimed = λ k. refl; loaded = λ z. refl; arrived = λ z. refl; put = λ z. refl }

merging_alone : (q b : ℕ) → IsOfBatches (merging_at q b)
merging_alone q b = record { claimed = λ k. refl; loaded = λ z. refl; arrived = λ z. refl; put = λ z. refl }

closed_alone : (q b : ℕ) → IsOfBatches (closed_at q b)
closed_alone q b = record { claimed = λ k. refl; loaded = λ z. refl; arrived = λ z. refl; put = λ z. refl }

-- an item in hand counts in the sum over all hands
pub hands_has : (f : Item → ℕ) (vs : List View) (i : ℕ) (v : View) (is : Item → Bool) (x : Item) → get_elem? vs i ≡ some v → find_item is v.hand ≡ some x → f x ≤ in_hands f vs
hands_has f vs i v is x e g = let a = hands_exchanged f vs i v (record v { hand = exchanged is [] v.hand }) is [] x e g refl in omega arith

-- the slot at a place, after that of (q, t) was set
set_cases : {A : Type 0} (p : Plan) (xs : List Slot) (q t r n : ℕ) (y x : Slot) → t < tasks_of p q → n < tasks_of p r → get_elem? (set xs (place_of p q t) y) (place_of p r n) ≡ some x
    → (q ≡ r → t ≡ n → y ≡ x → one_if (eqb q r && eqb t n) ≡ 1 → A) → (one_if (eqb q r && eqb t n) ≡ 0 → get_elem? xs (place_of p r n) ≡ some x → A) → A
set_cases p xs q t r n y x l m e same other = ⊎_elim
    (λ (u : (place_of p r n ≡ place_of p q t) × (y ≡ x)). let is = places_apart p q t r n l m (sym u.0) in same is.0 is.1 u.1 (both_one q t r n is.0 is.1))
    (λ (u : (place_of p r n ≢ place_of p q t) × (get_elem? xs (place_of p r n) ≡ some x)). other (both_none q t r n (λ z. u.0 (λ j. place_of p (sym z.0 j) (sym z.1 j)))) u.1)
    (at_set xs (place_of p q t) (place_of p r n) y x e)

-- a batch with all its n tickets due
abbrev whole_batch : Plan → ℕ → ℕ → ℕ → Item
whole_batch p q b n = Batch (record { search = q; batch = b; due = numbers_from (b * p.batch) n; taken = no_label; at_slot = false })

-- what a count brings that is the batch's last
due_yes : (f : Item → ℕ) (p : Plan) (q b n : ℕ) → n ≡ batch_size p q b → sum_by f (batch_due p q b n) ≡ f (whole_batch p q b n)
due_yes f p q b n h = let a = sum_by-cons f (whole_batch p q b n) [] in let c : sum_by f (batch_due p q b n) ≡ sum_by f (whole_batch p q b n ∷ []) = ap (sum_by f) (cond-true _ _ _ (eq-eqb n (batch_size p q b) h)) in omega arith

-- what any other count brings
due_no : (f : Item → ℕ) (p : Plan) (q b n : ℕ) → n ≢ batch_size p q b → sum_by f (batch_due p q b n) ≡ 0
due_no f p q b n h = ap (sum_by f) (cond-false _ _ _ (ne_eqb n (batch_size p q b) h))

-- a number that is reached counts 1
pub le_one : (a b : ℕ) → a ≤ b → one_if (leb a b) ≡ 1
le_one a b h = ap one_if (le-leb a b h)

-- and one that is not counts 0
pub le_none : (a b : ℕ) → b < a → one_if (leb a b) ≡ 0
le_none a b h = ap one_if (lt-leb a b h)

-- of a batch whose desk is at its slot
at_slot_one : (q b r c : ℕ) (w : Bool) → w ≡ true → one_if (eqb q r && eqb b c && w) ≡ one_if (eqb q r && eqb b c)
at_slot_one q b r c w h = ap (λ y. one_if (eqb q r && eqb b c && y)) h ∙ one_if_always (eqb q r && eqb b c)

-- and of one whose desk is not
at_slot_none : (q b r c : ℕ) (w : Bool) → w ≡ false → one_if (eqb q r && eqb b c && w) ≡ 0
at_slot_none q b r c w h = ap (λ y. one_if (eqb q r && eqb b c && y)) h ∙ one_if_never (eqb q r && eqb b c)

-- a batch at its slot is a batch
merging_le : (q b : ℕ) (x : Item) → merging_at q b x ≤ batch_at q b x
merging_le q b (Claimed j) = omega arith
merging_le q b (Loaded z) = omega arith
merging_le q b (Arrived z) = omega arith
merging_le q b (Put z) = omega arith
merging_le q b (Batch z) = one_if_fewer (eqb z.search q) (eqb z.batch b) z.at_slot
merging_le q b (Closed z) = omega arith

module _ (p : Plan) (good : IsPlan p) where
  abbrev B : ArrivalState → Type 0
  B = BatchesKept p

  -- a move that touches no batch keeps all four
  untouched : (s : ArrivalState) → B s → (t : ArrivalState) → Unbatched s t → B t
  untouched s f t u = let complete : (q b : ℕ) → is_complete p t q b ≡ is_complete p s q b = λ q b. ap (λ ws. one_if (leb (batch_size p q b) (get_or ws (place_of p q b) 0))) u.counts in
      let old : (j : ℕ) (x : Slot) → get_elem? t.batches j ≡ some x → get_elem? s.batches j ≡ some x = λ j x e. sym (ap (λ xs. get_elem? xs j) u.batches) ∙ e in record {
        last = λ q b x h e. let a = f.last q b x h (old _ x e) in let c = u.hands (batch_at q b) (batch_alone q b) in let d = complete q b in omega arith;
        due = λ q n x h e. let y = u.results _ x e in let a = f.due q n y.0 h y.1 in let w = y.2 in let c = u.hands (due_at q n) (due_alone q n) in let d = complete q (n / p.batch) in omega arith;
        merging = λ q b x h e. let a = f.merging q b x h (old _ x e) in let c = u.hands (merging_at q b) (merging_alone q b) in omega arith;
        closed = λ q b x h e. let a = f.closed q b x h (old _ x e) in let c = u.hands (closed_at q b) (closed_alone q b) in omega arith;
      }

  -- a batch with a ticket that is not yet counted has room for its count
  count_room : (s : ArrivalState) (i q t : ℕ) (v : View) (x : Item) → WordsFit p s → CountsFit p s → t < tasks_of p q → get_elem? s.desks i ≡ some v → find_item (is_put q t) v.hand ≡ some x → get_or s.counts (place_of p q (t / p.batch)) 0 < batch_size p q (t / p.batch)
  count_room s i q t v x words counts range e g = let b : ℕ = t / p.batch in let a = counts.counts q b (ticket_batch p good q t range) in let h = put_gives (uncounted_in p q b) s.desks i v (record v { hand = exchanged (is_put q t) [] v.hand }) e q t [] x g refl in
      let one = both_one q b q b refl refl in let w = words.word q in let d = drawn_le p good q s.claimed in let n : ℕ = p.batch in let bn : ℕ = b * n in let k : ℕ = tasks_of p q in let m : ℕ = get_or s.tickets q 0 in let le : min n (m - bn) ≤ min n (k - bn) = omega arith in omega arith

  -- what the last count of a batch brings
  whole_at : (q d r b n : ℕ) → batch_at r b (whole_batch p q d n) ≡ one_if (eqb q r && eqb d b)
  whole_at q d r b n = refl

  -- a whole batch has each of its own tickets due once
  whole_due : (q d r u n : ℕ) → n ≡ batch_size p q d → u < tasks_of p r → due_at r u (whole_batch p q d n) ≡ one_if (eqb q r && eqb d (u / p.batch))
  whole_due q d r u n is range = dite (ℕ_discrete q r)
      (λ same. let a : due_at r u (whole_batch p q d n) ≡ times u (numbers_from (d * p.batch) n) = cond-true _ _ _ (eq-eqb q r same) in let b : times u (numbers_from (d * p.batch) n) ≡ times u (numbers_from (d * p.batch) (batch_size p q d)) = ap (λ m. times u (numbers_from (d * p.batch) m)) is in
      let c = batch_times p good q d u (subst (λ y. u < tasks_of p y) (sym same) range) in
      dite (ℕ_discrete d (u / p.batch)) (λ y. let k = both_one q d r (u / p.batch) same y in let m = eq_one (u / p.batch) d (sym y) in omega arith) (λ y. let k = both_none q d r (u / p.batch) (λ z. y z.1) in let m = eq_none (u / p.batch) d (λ z. y (sym z)) in omega arith))
      (λ other. let a : due_at r u (whole_batch p q d n) ≡ 0 = cond-false _ _ _ (ne_eqb q r other) in let k = both_none q d r (u / p.batch) (λ z. other z.0) in omega arith)

  module _ (s : ArrivalState) (shape : HasShape p s) (labels : LabelsFit p s) (f : B s) where
    module _ (i q t : ℕ) (v : View) (x : Item) (words : WordsFit p s) (counts : CountsFit p s) (e : get_elem? s.desks i ≡ some v) (g : find_item (is_put q t) v.hand ≡ some x) where
      -- a count is kept track of, whether it is the last or not
      counts_one : let c = place_of p q (t / p.batch) in let n = get_or s.counts c 0 + 1 in B (record s { counts = set s.counts c n; desks = set s.desks i (after_count p v q t n) })
      counts_one = let d : ℕ = t / p.batch in let c : ℕ = place_of p q d in let n : ℕ = get_or s.counts c 0 + 1 in let w : View = after_count p v q t n in let vs : List View = set s.desks i w in let ys : List Item = batch_due p q d n in let ws : List ℕ = set s.counts c n in
          let range = (counted p good s i q t v x shape words counts e g).0 in let room = count_room s i q t v x words counts range e g in let real = ticket_batch p good q t range in let low = batch_first p good q d real in
          let fits : c < length s.counts = subst (λ z. c < z) (sym shape.counts) (place_within p q d low) in
          -- a number that is 1 at the batch alone, where it is brought
          let step : (h : Item → ℕ) (r b : ℕ) → IsOfBatches h → IsBatch p r b → (n ≡ batch_size p q d → h (whole_batch p q d n) ≡ one_if (eqb q r && eqb d b))
          → in_hands h vs + one_if (leb (batch_size p r b) (get_or s.counts (place_of p r b) 0)) ≡ in_hands h s.desks + one_if (leb (batch_size p r b) (get_or ws (place_of p r b) 0))
          = λ h r b alone there is. let k = put_gives h s.desks i v w e q t ys x g refl in let z = alone.put (record { search = q; ticket = t }) in let narrow = batch_first p good r b there in
          dite (ℕ_discrete c (place_of p r b))
          (λ same. let at = places_apart p q d r b low narrow same in let one = both_one q d r b at.0 at.1 in let new : get_or ws (place_of p r b) 0 ≡ n = subst (λ y. get_or ws y 0 ≡ n) same (get_or-set_same s.counts c n 0 fits) in let old : get_or s.counts (place_of p r b) 0 ≡ get_or s.counts c 0 = ap (λ y. get_or s.counts y 0) (sym same) in
          let size : batch_size p r b ≡ batch_size p q d = (λ j. batch_size p (sym at.0 j) (sym at.1 j)) in let before = le_none (batch_size p r b) (get_or s.counts (place_of p r b) 0) (omega arith) in
          dite (ℕ_discrete n (batch_size p q d))
          (λ full. let y = due_yes h p q d n full in let o = is full in let after = le_one (batch_size p r b) (get_or ws (place_of p r b) 0) (omega arith) in omega arith)
          (λ short. let y = due_no h p q d n short in let after = le_none (batch_size p r b) (get_or ws (place_of p r b) 0) (omega arith) in omega arith))
          (λ other. let none = both_none q d r b (λ y. other (λ j. place_of p (y.0 j) (y.1 j))) in let new : get_or ws (place_of p r b) 0 ≡ get_or s.counts (place_of p r b) 0 = get_or-set_other s.counts c (place_of p r b) n 0 (λ y. other (sym y)) in
          let same : one_if (leb (batch_size p r b) (get_or ws (place_of p r b) 0)) ≡ one_if (leb (batch_size p r b) (get_or s.counts (place_of p r b) 0)) = ap (λ y. one_if (leb (batch_size p r b) y)) new in
          dite (ℕ_discrete n (batch_size p q d)) (λ full. let y = due_yes h p q d n full in let o = is full in omega arith) (λ short. let y = due_no h p q d n short in omega arith)) in
          -- a number that the batch does not have
          let none : (h : Item → ℕ) → IsOfBatches h → h (whole_batch p q d n) ≡ 0 → in_hands h vs ≡ in_hands h s.desks = λ h alone z. let k = put_gives h s.desks i v w e q t ys x g refl in let o = alone.put (record { search = q; ticket = t }) in
          dite (ℕ_discrete n (batch_size p q d)) (λ full. let y = due_yes h p q d n full in omega arith) (λ short. let y = due_no h p q d n short in omega arith) in
          record {
            last = λ r b y there h. let a = f.last r b y there h in let k = step (batch_at r b) r b (batch_alone r b) there (λ _. refl) in omega arith;
            due = λ r u y there h. let a = f.due r u y there h in let k = step (due_at r u) r (u / p.batch) (due_alone r u) (ticket_batch p good r u there) (λ full. whole_due q d r u n full there) in omega arith;
            merging = λ r b y there h. let a = f.merging r b y there h in let k = none (merging_at r b) (merging_alone r b) (at_slot_none q d r b false refl) in omega arith;
            closed = λ r b y there h. let a = f.closed r b y there h in let k = none (closed_at r b) (closed_alone r b) refl in omega arith;
          }

    module _ (i q t : ℕ) (v : View) (x : Item) (l : Label) (e : get_elem? s.desks i ≡ some v) (g : find_item (is_batch q (t / p.batch)) v.hand ≡ some x) (m : is_due t x ≡ true) (o : get_elem? s.results (place_of p q t) ≡ some (holds l)) where
      -- a result that is taken is due no longer, and its slot is emptied
      takes_one : B (record s { results = set s.results (place_of p q t) emptied; desks = set s.desks i (after_take_result p v q t x l) })
      takes_one = let w : View = after_take_result p v q t x l in let vs : List View = set s.desks i w in let z = batch_found p good s labels i v e q (t / p.batch) x g in let h : HeldBatch = z.0 in let has = due_now t h (subst (λ y. is_due t y ≡ true) z.1 m) in
          let range : t < tasks_of p q = subst (λ y. t < tasks_of p y) z.2 (due_range p good h t z.4 has).1 in
          let moved : (k : Item → ℕ) → in_hands k vs + k (Batch h) ≡ in_hands k s.desks + k (taken_from (Batch h) t l) = λ k. let a = hands_exchanged k s.desks i v w (is_batch q (t / p.batch)) (taken_from x t l ∷ []) x e g refl in let b : k (taken_from x t l) ≡ k (taken_from (Batch h) t l) = ap (λ y. k (taken_from y t l)) z.1 in let c : k x ≡ k (Batch h) = ap k z.1 in omega arith in
          record {
            last = λ r b y there d. let a = f.last r b y there d in let k = moved (batch_at r b) in omega arith;
            due = λ r u y there d. let k = moved (due_at r u) in
                let fewer : due_at r u (taken_from (Batch h) t l) + one_if (eqb q r && eqb t u) ≡ due_at r u (Batch h) = dite (ℕ_discrete h.search r)
                (λ same. let a : due_at r u (taken_from (Batch h) t l) ≡ times u (without t h.due) = cond-true _ _ _ (eq-eqb h.search r same) in let b : due_at r u (Batch h) ≡ times u h.due = cond-true _ _ _ (eq-eqb h.search r same) in let c = times_without u t h.due has in
                let n : one_if (eqb q r && eqb t u) ≡ one_if (eqb t u) = ap (λ y. one_if (y && eqb t u)) (eq-eqb q r (sym z.2 ∙ same)) in omega arith)
                (λ other. let a : due_at r u (taken_from (Batch h) t l) ≡ 0 = cond-false _ _ _ (ne_eqb h.search r other) in let b : due_at r u (Batch h) ≡ 0 = cond-false _ _ _ (ne_eqb h.search r other) in let n = both_none q t r u (λ y. other (z.2 ∙ y.0)) in omega arith) in
                set_cases p s.results q t r u emptied y range there d
                (λ is_search is_ticket is one. let a = f.due r u (holds l) there (let c : place_of p r u ≡ place_of p q t = (λ j. place_of p (sym is_search j) (sym is_ticket j)) in ap (get_elem? s.results) c ∙ o) in let b : was_emptied emptied ≡ was_emptied y = ap was_emptied is in omega arith)
                (λ none old. let a = f.due r u y there old in omega arith);
            merging = λ r b y there d. let a = f.merging r b y there d in let k = moved (merging_at r b) in omega arith;
            closed = λ r b y there d. let a = f.closed r b y there d in let k = moved (closed_at r b) in omega arith;
          }

    module _ (i q b : ℕ) (v : View) (x : Item) (e : get_elem? s.desks i ≡ some v) (g : find_item (is_batch q b) v.hand ≡ some x) where
      -- the item is a batch that fits
      held : (z : HeldBatch) × (x ≡ Batch z) × (z.search ≡ q) × (z.batch ≡ b) × HeldFits p z
      held = batch_found p good s labels i v e q b x g

      -- the batch is one that its search has
      pub held_real : IsBatch p q b
      unfolding held
      held_real = subst (λ y. y * p.batch < tasks_of p q) held.3 (subst (λ y. held.0.batch * p.batch < tasks_of p y) held.2 held.4.real)

      -- the numbers of the batch in hand, before and after its desk comes to the slot
      own : (r c : ℕ) → (batch_at r c x ≡ one_if (eqb q r && eqb b c)) × (merging_at r c x ≡ one_if (eqb q r && eqb b c && is_at_slot x)) × (merging_at r c (reached_item x) ≡ one_if (eqb q r && eqb b c && true)) × (batch_at r c (reached_item x) ≡ one_if (eqb q r && eqb b c))
          × (closed_at r c x ≡ 0) × (closed_at r c (reached_item x) ≡ 0)
      own r c = let z = as_held in (
        ap (batch_at r c) z.1 ∙ (λ j. one_if (eqb (z.2 j) r && eqb (z.3 j) c)),
        ap (merging_at r c) z.1 ∙ (λ j. one_if (eqb (z.2 j) r && eqb (z.3 j) c && z.0.at_slot)) ∙ ap (λ y. one_if (eqb q r && eqb b c && y)) (sym (ap is_at_slot z.1)),
        ap (λ y. merging_at r c (reached_item y)) z.1 ∙ (λ j. one_if (eqb (z.2 j) r && eqb (z.3 j) c && true)),
        ap (λ y. batch_at r c (reached_item y)) z.1 ∙ (λ j. one_if (eqb (z.2 j) r && eqb (z.3 j) c)),
        ap (closed_at r c) z.1,
        ap (λ y. closed_at r c (reached_item y)) z.1,
      )
        where
          as_held : (z : HeldBatch) × (x ≡ Batch z) × (z.search ≡ q) × (z.batch ≡ b) × HeldFits p z
          as_held = batch_found p good s labels i v e q b x g

      -- its slot is there, and nothing was put into it
      pub batch_slot : (y : Slot) × (get_elem? s.batches (place_of p q b) ≡ some y) × (was_put y ≡ 0)
      batch_slot = let real = held_real in let y = has_slot s.batches (place_of p q b) (subst (λ z. place_of p q b < z) (sym shape.batches) (place_within p q b (batch_first p good q b real))) in
          let a = f.last q b y.0 real y.1 in let c = hands_has (batch_at q b) s.desks i v (is_batch q b) x e g in let d = (own q b).0 in let one = both_one q b q b refl refl in let k = one_if_le (leb (batch_size p q b) (get_or s.counts (place_of p q b) 0)) in (y.0, y.1, omega arith)

      -- where the desk is not yet at it, it is fresh
      pub fresh_batch : is_at_slot x ≡ false → get_elem? s.batches (place_of p q b) ≡ some fresh
      fresh_batch shut = let y = batch_slot in let real = held_real in let o = own q b in let none : merging_at q b x ≡ 0 = o.1 ∙ at_slot_none q b q b (is_at_slot x) shut in let one : batch_at q b x ≡ 1 = o.0 ∙ both_one q b q b refl refl in
          let h = hands_rest (merging_at q b) (batch_at q b) (merging_le q b) s.desks i v (is_batch q b) x e g in let a = f.last q b y.0 real y.1 in let k = one_if_le (leb (batch_size p q b) (get_or s.counts (place_of p q b) 0)) in let n = f.merging q b y.0 real y.1 in let put = y.2 in
          y.1 ∙ ap some (none_but y.0 y.2 (omega arith))

      -- the desk comes to the slot of the merged result
      reaches : is_at_slot x ≡ false → B (record s { batches = set s.batches (place_of p q b) reached; desks = set s.desks i (after_reach_batch v q b x) })
      reaches shut = let w : View = after_reach_batch v q b x in let vs : List View = set s.desks i w in let real = held_real in let low = batch_first p good q b real in let was = fresh_batch shut in
          let moved : (k : Item → ℕ) → in_hands k vs + k x ≡ in_hands k s.desks + k (reached_item x) = λ k. let a = hands_exchanged k s.desks i v w (is_batch q b) (reached_item x ∷ []) x e g refl in omega arith in
          let place : (r c : ℕ) → q ≡ r → b ≡ c → get_elem? s.batches (place_of p r c) ≡ some fresh = λ r c y z. (let n : place_of p r c ≡ place_of p q b = (λ j. place_of p (sym y j) (sym z j)) in ap (get_elem? s.batches) n ∙ was) in
          record {
            last = λ r c y there d. let k = moved (batch_at r c) in let o = own r c in let o0 = o.0 in let o3 = o.3 in set_cases p s.batches q b r c reached y low (batch_first p good r c there) d
                (λ u z is one. let a = f.last r c fresh there (place r c u z) in let n : was_put reached ≡ was_put y = ap was_put is in omega arith) (λ none old. let a = f.last r c y there old in omega arith);
            due = λ r u y there d. let a = f.due r u y there d in let k = moved (due_at r u) in let same : due_at r u (reached_item x) ≡ due_at r u x = due_reached r u in omega arith;
            merging = λ r c y there d. let k = moved (merging_at r c) in let o = own r c in let none_now : merging_at r c x ≡ 0 = o.1 ∙ at_slot_none q b r c (is_at_slot x) shut in let one_then : merging_at r c (reached_item x) ≡ one_if (eqb q r && eqb b c) = o.2 ∙ at_slot_one q b r c true refl in
                set_cases p s.batches q b r c reached y low (batch_first p good r c there) d
                (λ u z is one. let a = f.merging r c fresh there (place r c u z) in let n : is_reached reached ≡ is_reached y = ap is_reached is in omega arith) (λ none old. let a = f.merging r c y there old in omega arith);
            closed = λ r c y there d. let k = moved (closed_at r c) in let o = own r c in let o4 = o.4 in let o5 = o.5 in set_cases p s.batches q b r c reached y low (batch_first p good r c there) d
                (λ u z is one. let a = f.closed r c fresh there (place r c u z) in let n : was_emptied reached ≡ was_emptied y = ap was_emptied is in omega arith) (λ none old. let a = f.closed r c y there old in omega arith);
          }
        where
          due_reached : (r u : ℕ) → due_at r u (reached_item x) ≡ due_at r u x
          due_reached r u = let z = batch_found p good s labels i v e q b x g in ap (λ y. due_at r u (reached_item y)) z.1 ∙ sym (ap (due_at r u) z.1)

      -- the merged result is put, and the batch leaves the hand
      puts_merged : (l : Label) → may_put_merged l x ≡ true → is_at_slot x ≡ true → B (record s { batches = set s.batches (place_of p q b) (holds l); desks = set s.desks i (after_put_merged v q b) })
      puts_merged l m at = let w : View = after_put_merged v q b in let vs : List View = set s.desks i w in let real = held_real in let low = batch_first p good q b real in let was = batch_slot in
          let moved : (k : Item → ℕ) → in_hands k vs + k x ≡ in_hands k s.desks = λ k. let a = hands_exchanged k s.desks i v w (is_batch q b) [] x e g refl in omega arith in
          let place : (r c : ℕ) → q ≡ r → b ≡ c → get_elem? s.batches (place_of p r c) ≡ some was.0 = λ r c y z. (let n : place_of p r c ≡ place_of p q b = (λ j. place_of p (sym y j) (sym z j)) in ap (get_elem? s.batches) n ∙ was.1) in
          record {
            last = λ r c y there d. let k = moved (batch_at r c) in let o = own r c in let o0 = o.0 in set_cases p s.batches q b r c (holds l) y low (batch_first p good r c there) d
                (λ u z is one. let a = f.last r c was.0 there (place r c u z) in let bare = was.2 in let n : was_put (holds l) ≡ was_put y = ap was_put is in omega arith) (λ none old. let a = f.last r c y there old in omega arith);
            due = λ r u y there d. let a = f.due r u y there d in let k = moved (due_at r u) in let none : due_at r u x ≡ 0 = nothing_due r u in omega arith;
            merging = λ r c y there d. let k = moved (merging_at r c) in let o = own r c in let one_now : merging_at r c x ≡ one_if (eqb q r && eqb b c) = o.1 ∙ at_slot_one q b r c (is_at_slot x) at in
                set_cases p s.batches q b r c (holds l) y low (batch_first p good r c there) d
                (λ u z is one. let a = f.merging r c was.0 there (place r c u z) in let n : is_reached (holds l) ≡ is_reached y = ap is_reached is in let top = put_or_reached was.0 in omega arith) (λ none old. let a = f.merging r c y there old in omega arith);
            closed = λ r c y there d. let k = moved (closed_at r c) in let o = own r c in let o4 = o.4 in set_cases p s.batches q b r c (holds l) y low (batch_first p good r c there) d
                (λ u z is one. let a = f.closed r c was.0 there (place r c u z) in let bare = not_emptied was.0 was.2 in let n : was_emptied (holds l) ≡ was_emptied y = ap was_emptied is in omega arith) (λ none old. let a = f.closed r c y there old in omega arith);
          }
        where
          nothing_due : (r u : ℕ) → due_at r u x ≡ 0
          nothing_due r u = let z = batch_found p good s labels i v e q b x g in let none = none_due l z.0 (subst (λ y. may_put_merged l y ≡ true) z.1 m) in
              ap (due_at r u) z.1 ∙ ⊎_elim (λ (y : eqb z.0.search r ≡ true). cond-true _ _ _ y ∙ ap (times u) none) (λ (y : eqb z.0.search r ≡ false). cond-false _ _ _ y) (cases_Bool (eqb z.0.search r))

    -- a merged result is taken out
    closes : (i q b : ℕ) (v : View) (l : Label) → IsBatch p q b → get_elem? s.desks i ≡ some v → get_elem? s.batches (place_of p q b) ≡ some (holds l) → B (record s { batches = set s.batches (place_of p q b) emptied; desks = set s.desks i (after_close v q b l) })
    closes i q b v l real e o = let w : View = after_close v q b l in let vs : List View = set s.desks i w in let low = batch_first p good q b real in let new : Item = Closed (record { search = q; batch = b; taken = l }) in
        let moved : (k : Item → ℕ) → in_hands k vs ≡ in_hands k s.desks + k new = λ k. hands_more k s.desks i v w new e refl in
        let place : (r c : ℕ) → q ≡ r → b ≡ c → get_elem? s.batches (place_of p r c) ≡ some (holds l) = λ r c y z. (let n : place_of p r c ≡ place_of p q b = (λ j. place_of p (sym y j) (sym z j)) in ap (get_elem? s.batches) n ∙ o) in
        record {
          last = λ r c y there d. let k = moved (batch_at r c) in set_cases p s.batches q b r c emptied y low (batch_first p good r c there) d
              (λ u z is one. let a = f.last r c (holds l) there (place r c u z) in let n : was_put emptied ≡ was_put y = ap was_put is in omega arith) (λ none old. let a = f.last r c y there old in omega arith);
          due = λ r u y there d. let a = f.due r u y there d in let k = moved (due_at r u) in omega arith;
          merging = λ r c y there d. let k = moved (merging_at r c) in set_cases p s.batches q b r c emptied y low (batch_first p good r c there) d
              (λ u z is one. let a = f.merging r c (holds l) there (place r c u z) in let n : is_reached emptied ≡ is_reached y = ap is_reached is in omega arith) (λ none old. let a = f.merging r c y there old in omega arith);
          closed = λ r c y there d. let k = moved (closed_at r c) in set_cases p s.batches q b r c emptied y low (batch_first p good r c there) d
              (λ u z is one. let a = f.closed r c (holds l) there (place r c u z) in let n : was_emptied emptied ≡ was_emptied y = ap was_emptied is in omega arith) (λ none old. let a = f.closed r c y there old in omega arith);
        }

  -- every move keeps all four
  pub batches_move : (s : ArrivalState) (m : Move) → HasShape p s → WordsFit p s → ResultsFit p s → CountsFit p s → LabelsFit p s → B s → B (move p s m)
  batches_move s (claim i) h ws r c n f = unbatched_claim p good B s f (untouched s f) i
  batches_move s (take_task i k) h ws r c n f = unbatched_take_task p good B s f (untouched s f) i k
  batches_move s (arrive i k) h ws r c n f = unbatched_arrive p good B s f (untouched s f) i k
  batches_move s (put i q t l) h ws r c n f = unbatched_put p good B s f (untouched s f) i q t l h ws r
  batches_move s (count i q t) h ws r c n f = item_keeps B s i _ _ _ f (λ v e x g _. counts_one s h n f i q t v x ws c e g)
  batches_move s (take_result i q t) h ws r c n f = item_keeps B s i _ _ _ f (λ v e x g m. by_label B s _ _ f (λ l o. takes_one s h n f i q t v x l e g m o))
  batches_move s (put_merged i q b l) h ws r c n f = item_keeps B s i _ _ _ f (λ v e x g m. by_test B (is_at_slot x) _ _ (λ at. puts_merged s h n f i q b v x e g l m at) (λ shut. reaches s h n f i q b v x e g shut))
  batches_move s (split i k) h ws r c n f = unbatched_split p good B s f (untouched s f) i k
  batches_move s (join i j) h ws r c n f = unbatched_join p good B s f (untouched s f) i j
  batches_move s (close i q b) h ws r c n f = desk_keeps B s i _ _ f (λ v e m. by_label B s _ _ f (λ l o. closes s h n f i q b v l (close_guard p q b v m).real e o))
  batches_move s (stop i k) h ws r c n f = unbatched_stop p good B s f (untouched s f) i k
  batches_move s (stopped i q) h ws r c n f = unbatched_stopped p good B s f (untouched s f) i q

  -- at the opening no batch is complete
  none_counted : (q b : ℕ) → IsBatch p q b → is_complete p (opened p) q b ≡ 0
  none_counted q b h = let z = zeros p good (task_count p) (place_of p q b) in let a = batch_some p good q b h in le_none (batch_size p q b) (get_or (opened p).counts (place_of p q b) 0) (omega arith)

  -- and all four hold
  pub batches_opened : B (opened p)
  batches_opened = record {
    last = λ q b x h e. let a = none_counted q b h in let c : was_put fresh ≡ was_put x = ap was_put (first_slot (task_count p) _ x e) in omega arith;
    due = λ q t x h e. let a = none_counted q (t / p.batch) (ticket_batch p good q t h) in let c : was_emptied fresh ≡ was_emptied x = ap was_emptied (first_slot (task_count p) _ x e) in omega arith;
    merging = λ q b x h e. let c : is_reached fresh ≡ is_reached x = ap is_reached (first_slot (task_count p) _ x e) in omega arith;
    closed = λ q b x h e. let c : was_emptied fresh ≡ was_emptied x = ap was_emptied (first_slot (task_count p) _ x e) in omega arith;
  }
