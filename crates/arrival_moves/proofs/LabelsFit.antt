-- A result stands for one task of its search, and what a desk has in hand and the merged results for tasks of theirs.
use Rattle.std.proofs.Common.{◌≡◌, ◌≢◌, ℕ, zero, suc, div-add-mod', ◌%◌, ◌+◌, ◌*◌, ◌/◌, ◌<◌, ◌≤◌, ⊎_elim, Bool, true, false, not, ◌&&◌, eqb, ltb, get_or, List, [], ◌∷◌, ◌++◌, length, set, sym, refl, ap, ◌∙◌, subst, arith}
use Rattle.std.specs.Prelude.{◌==◌}
use Rattle.std.proofs.lemmas.Bool.{false≢true, and_parts, ltb-true, eqb-true, or_cases, cond_both}
use Rattle.std.proofs.lemmas.List.{length-append}
use mathlib.Core.Option.{some}
use lib.ListN.{get_elem?}
use Rattle.arrival_moves.specs.declared.label.Label.{Label}
use Rattle.arrival_moves.specs.declared.plan.Plan.{Plan}
use Rattle.arrival_moves.specs.declared.view.View.{View}
use Rattle.arrival_moves.specs.declared.item.Item.{Item}
use Rattle.arrival_moves.specs.declared.item.Item.TheVariants.{Claimed, Loaded, Arrived, Put, Batch, Closed}
use Rattle.arrival_moves.specs.declared.item.ArrivedTask.{ArrivedTask}
use Rattle.arrival_moves.specs.declared.item.HeldBatch.{HeldBatch}
use Rattle.arrival_moves.specs.Lists.{one_if, times, contains, numbers_from}
use Rattle.arrival_moves.specs.Labels.{no_label}
use Rattle.arrival_moves.specs.Slots.{Slot, fresh, reached, holds, emptied}
use Rattle.arrival_moves.specs.Plans.{task_count, search_of, tasks_of, place_of, batch_size, IsPlan}
use Rattle.arrival_moves.specs.Items.{is_marked, is_claimed, is_loaded, is_arrived, is_put, is_batch, is_at_slot, is_due}
use Rattle.arrival_moves.specs.Hands.{find_item, exchanged}
use Rattle.arrival_moves.specs.AfterMove.{first_view, spent_view, after_close, after_stopped, after_claim, after_split, split_off, after_join, reached_item, batch_due, taken_from}
use Rattle.arrival_moves.specs.Guards.{may_put, may_put_merged, implies}
use Rattle.arrival_moves.specs.Moves.{ArrivalState, Move, claim, take_task, arrive, put, count, take_result, put_merged, split, join, close, stop, stopped, move, opened}
use Rattle.arrival_moves.specs.Fairness.{IsOfSearch, HoldsMerged}
use Rattle.list_laws.proofs.Places.{at_set}
use Rattle.list_laws.proofs.PlaceSums.{Each, each_set, each_snoc}
use Rattle.arrival_moves.proofs.Each.{each_none, each_one, each_append, each_exchanged, each_found}
use Rattle.arrival_moves.proofs.NumberLists.{times_append, times_one, contains_times, times_without, length_without, numbers_length, same_is}
use Rattle.arrival_moves.proofs.BatchRanges.{batch_within}
use Rattle.arrival_moves.proofs.Cases.{desk_keeps, item_keeps, by_label, found_is}
use Rattle.list_laws.proofs.PlaceTests.{by_test}
use Rattle.arrival_moves.proofs.CloseGuards.{close_guard}
use Rattle.arrival_moves.proofs.Items.{as_claimed, as_loaded, as_arrived, as_batch}
use Rattle.arrival_moves.specs.Fairness.{HasShape}
use Rattle.arrival_moves.proofs.Words.{WordsFit}
use Rattle.arrival_moves.proofs.TaskPlaces.{places_apart}
use Rattle.arrival_moves.proofs.Results.{ResultsFit, in_range}
use Rattle.arrival_moves.proofs.Counts.{CountsFit, counted, within_batch}
use Rattle.arrival_moves.proofs.OneIf.{one_if_true}
use Rattle.arrival_moves.proofs.SlotStates.{is_full, first_slot}

-- of a batch in hand: what was taken and what is due are the batch
pub record HeldFits (p : Plan) (z : HeldBatch) : Type 0 where
  pub size : length z.taken.tasks + length z.due ≡ batch_size p z.search z.batch
  pub search : IsOfSearch p z.search z.taken
  pub real : z.batch * p.batch < tasks_of p z.search
  pub due : (u : ℕ) → times u z.due ≤ one_if (eqb (u / p.batch) z.batch && ltb u (tasks_of p z.search))
  -- no task, no skipped one
  pub told : z.taken.skipped ≡ true → 1 ≤ length z.taken.tasks

-- what the item stands for is as it should be
abbrev pub ItemFits : Plan → Item → Type 0
ItemFits p (Claimed k) = k < task_count p
ItemFits p (Loaded z) = z.task < task_count p
ItemFits p (Arrived z) = (z.task < task_count p) × (search_of p z.task ≡ z.search)
ItemFits p (Put z) = Unit {0}
ItemFits p (Batch z) = HeldFits p z
ItemFits p (Closed z) = HoldsMerged p z

-- and all that a desk has in hand
abbrev pub HandFits : Plan → View → Type 0
HandFits p v = Each (ItemFits p) v.hand

-- the tickets and the batches that a search has
abbrev pub IsTicket : Plan → ℕ → ℕ → Type 0
IsTicket p q t = t < tasks_of p q

abbrev pub IsBatch : Plan → ℕ → ℕ → Type 0
IsBatch p q b = b * p.batch < tasks_of p q

-- what a result's label and a merged result's must be
abbrev pub ResultFits : Plan → ℕ → ℕ → Label → Type 0
ResultFits p q t l = (length l.tasks ≡ 1) × IsOfSearch p q l

abbrev pub MergedFits : Plan → ℕ → ℕ → Label → Type 0
MergedFits p q b l = (length l.tasks ≡ batch_size p q b) × IsOfSearch p q l

-- each full slot at a place of R has a label of F
abbrev pub SlotsFit : (R : ℕ → ℕ → Type 0) (F : ℕ → ℕ → Label → Type 0) → Plan → List Slot → Type 0
SlotsFit R F p xs = (q t : ℕ) (l : Label) → R q t → get_elem? xs (place_of p q t) ≡ some (holds l) → F q t l

pub record LabelsFit (p : Plan) (s : ArrivalState) : Type 0 where
  pub hands : Each (HandFits p) s.desks
  pub results : SlotsFit (IsTicket p) (ResultFits p) p s.results
  pub batches : SlotsFit (IsBatch p) (MergedFits p) p s.batches
  -- a slot that is no batch's is never full
  pub real : SlotsFit (IsTicket p) (λ q b l. IsBatch p q b) p s.batches

-- the label that a full slot holds
label_in : Slot → Label
label_in (holds l) = l
label_in _ = no_label

-- equal full slots hold equal labels
pub holds_same : (l m : Label) → holds l ≡ holds m → l ≡ m
unfolding label_in
holds_same l m e = ap label_in e

module _ (p : Plan) (R : ℕ → ℕ → Type 0) (F : ℕ → ℕ → Label → Type 0) (within : (q t : ℕ) → R q t → t < tasks_of p q) where
  -- one slot is filled, or comes to be not full
  pub slots_filled : (xs : List Slot) (q t : ℕ) (l : Label) → R q t → F q t l → SlotsFit R F p xs → SlotsFit R F p (set xs (place_of p q t) (holds l))
  slots_filled xs q t l real fits f r n m there e = ⊎_elim
      (λ (u : (place_of p r n ≡ place_of p q t) × (holds l ≡ holds m)). let same = places_apart p q t r n (within q t real) (within r n there) (sym u.0) in let is = holds_same l m u.1 in
      subst (λ z. F r n z) is (subst (λ z. F r z l) same.1 (subst (λ z. F z t l) same.0 fits)))
      (λ (u : (place_of p r n ≢ place_of p q t) × (get_elem? xs (place_of p r n) ≡ some (holds m))). f r n m there u.1)
      (at_set xs (place_of p q t) (place_of p r n) (holds l) (holds m) e)

  -- and so where one comes to hold nothing
  pub slots_bare : (xs : List Slot) (j : ℕ) (y : Slot) → is_full y ≡ 0 → SlotsFit R F p xs → SlotsFit R F p (set xs j y)
  slots_bare xs j y bare f r n m there e = ⊎_elim
      (λ (u : (place_of p r n ≡ j) × (y ≡ holds m)). let a : is_full y ≡ 1 = ap is_full u.1 in absurd (omega arith))
      (λ (u : (place_of p r n ≢ j) × (get_elem? xs (place_of p r n) ≡ some (holds m))). f r n m there u.1)
      (at_set xs j (place_of p r n) y (holds m) e)

-- what the guard of `put` says of the label at the slot
pub put_label : (v : View) (q : ℕ) (l : Label) (z : ArrivedTask) → may_put v q l (Arrived z) ≡ true → z.at_slot ≡ true → (l.tasks ≡ z.task ∷ []) × (implies z.failed l.failed ≡ true) × (implies l.skipped (contains q v.stopped) ≡ true)
put_label v q l z m at = let a = ⊎_elim (λ (y : not z.at_slot ≡ true). absurd (false≢true (sym (ap not at) ∙ y))) (λ y. y) (or_cases _ _ m) in let b = and_parts _ _ a in let c = and_parts _ _ b.0 in (same_is _ _ c.0, c.1, b.1)

-- and that of `put_merged`
pub record MergedLabel (l : Label) (z : HeldBatch) : Type 0 where
  pub tasks : l.tasks ≡ z.taken.tasks
  pub failed : implies z.taken.failed l.failed ≡ true
  pub skipped : implies l.skipped z.taken.skipped ≡ true

-- a batch that may be merged has no ticket due
pub none_due : (l : Label) (z : HeldBatch) → may_put_merged l (Batch z) ≡ true → z.due ≡ []
none_due l z m = same_is _ _ (and_parts _ _ m).0

-- the label of a merged result at its slot
pub merged_label : (l : Label) (z : HeldBatch) → may_put_merged l (Batch z) ≡ true → z.at_slot ≡ true → MergedLabel l z
merged_label l z m at = let a = ⊎_elim (λ (y : not z.at_slot ≡ true). absurd (false≢true (sym (ap not at) ∙ y))) (λ y. y) (or_cases _ _ (and_parts _ _ m).1) in let b = and_parts _ _ a in let c = and_parts _ _ b.0 in let d = and_parts _ _ c.0 in
    record { tasks = same_is _ _ d.0; failed = d.1; skipped = c.1 }

-- what the guard of `take_result` says
pub due_now : (t : ℕ) (z : HeldBatch) → is_due t (Batch z) ≡ true → contains t z.due ≡ true
due_now t z m = (and_parts _ _ m).0

module _ (p : Plan) (good : IsPlan p) where
  abbrev L : ArrivalState → Type 0
  L = LabelsFit p

  -- a batch's number is that of a ticket too
  pub batch_first : (q b : ℕ) → IsBatch p q b → b < tasks_of p q
  batch_first q b h = within_batch 0 p.batch b (tasks_of p q) good.batch h

  -- the batch of a ticket
  pub ticket_batch : (q t : ℕ) → IsTicket p q t → IsBatch p q (t / p.batch)
  ticket_batch q t h = let m = div-add-mod' t p.batch in let dn : ℕ = (t / p.batch) * p.batch in let r : ℕ = t % p.batch in let m' : dn + r ≡ t = m in omega arith

  -- a ticket is one
  ticket_first : (q t : ℕ) → IsTicket p q t → t < tasks_of p q
  ticket_first q t h = h

  -- a batch that is due has tickets of its search
  pub due_range : (z : HeldBatch) (t : ℕ) → HeldFits p z → contains t z.due ≡ true → (t / p.batch ≡ z.batch) × (t < tasks_of p z.search)
  due_range z t f h = let a = contains_times t z.due h in let b = f.due t in let c = and_parts _ _ (one_if_true _ (omega arith)) in (eqb-true _ _ c.0, ltb-true _ _ c.1)

  module _ (s : ArrivalState) (f : L s) where
    -- a move that changes no slot keeps the slots' labels
    desks_only : (t : ArrivalState) → t.results ≡ s.results → t.batches ≡ s.batches → Each (HandFits p) t.desks → L t
    desks_only t results batches h = record {
      hands = h;
      results = subst (SlotsFit (IsTicket p) (ResultFits p) p) (sym results) f.results;
      batches = subst (SlotsFit (IsBatch p) (MergedFits p) p) (sym batches) f.batches;
      real = subst (SlotsFit (IsTicket p) (λ q b l. IsBatch p q b) p) (sym batches) f.real;
    }

    module _ (i : ℕ) (v : View) (e : get_elem? s.desks i ≡ some v) where
      -- the item in hand fits
      pub fits_found : (is : Item → Bool) (x : Item) → find_item is v.hand ≡ some x → ItemFits p x
      fits_found is x g = each_found (ItemFits p) is v.hand x g (f.hands i v e)

      -- the hand after others came for one item
      gives : (is : Item → Bool) (ys : List Item) → Each (ItemFits p) ys → Each (HandFits p) (set s.desks i (record v { hand = exchanged is ys v.hand }))
      gives is ys h = each_set (HandFits p) s.desks i (record v { hand = exchanged is ys v.hand }) f.hands (each_exchanged (ItemFits p) is ys v.hand (f.hands i v e) h)

      -- and after one came for it
      gives_one : (is : Item → Bool) (y : Item) → ItemFits p y → Each (HandFits p) (set s.desks i (record v { hand = exchanged is (y ∷ []) v.hand }))
      gives_one is y h = gives is (y ∷ []) (each_one (ItemFits p) y h)

      -- the batch in hand, with what holds of it
      pub batch_found : (q b : ℕ) (x : Item) → find_item (is_batch q b) v.hand ≡ some x → (z : HeldBatch) × (x ≡ Batch z) × (z.search ≡ q) × (z.batch ≡ b) × HeldFits p z
      batch_found q b x g = let z = as_batch q b x (found_is (is_batch q b) v.hand x g) in (z.0, z.1, z.2, z.3, subst (ItemFits p) z.1 (fits_found (is_batch q b) x g))

      -- the task with its ticket in hand, with what holds of it
      pub arrived_found : (q t : ℕ) (x : Item) → find_item (is_arrived q t) v.hand ≡ some x → (z : ArrivedTask) × (x ≡ Arrived z) × (z.search ≡ q) × (z.ticket ≡ t) × (z.task < task_count p) × (search_of p z.task ≡ z.search)
      arrived_found q t x g = let z = as_arrived q t x (found_is (is_arrived q t) v.hand x g) in let fits : ItemFits p (Arrived z.0) = subst (ItemFits p) z.1 (fits_found (is_arrived q t) x g) in (z.0, z.1, z.2, z.3, fits.0, fits.1)

      -- coming to the slot changes no label
      reached_fits : (x : Item) → ItemFits p x → ItemFits p (reached_item x)
      reached_fits (Claimed k) h = h
      reached_fits (Loaded z) h = h
      reached_fits (Arrived z) h = h
      reached_fits (Put z) h = h
      reached_fits (Batch z) h = record { size = h.size; search = h.search; real = h.real; due = h.due; told = h.told }
      reached_fits (Closed z) h = h

      -- a claimed task is one of the plan
      drawn : L (record s { claimed = s.claimed + 1; desks = set s.desks i (after_claim p v s.claimed) })
      drawn = desks_only _ refl refl (each_set (HandFits p) s.desks i (after_claim p v s.claimed) f.hands
          (cond_both (ltb s.claimed (task_count p)) (v.hand ++ Claimed s.claimed ∷ []) v.hand (Each (ItemFits p)) (λ y. each_append (ItemFits p) v.hand _ (f.hands i v e) (each_one (ItemFits p) (Claimed s.claimed) (ltb-true _ _ y))) (λ _. f.hands i v e)))

      -- the result of one task is put
      put_fits : (q t : ℕ) (l : Label) (x : Item) → t < tasks_of p q → find_item (is_arrived q t) v.hand ≡ some x → may_put v q l x ≡ true → is_at_slot x ≡ true → ResultFits p q t l
      put_fits q t l x range g m at = let z = arrived_found q t x g in let lab = put_label v q l z.0 (subst (λ y. may_put v q l y ≡ true) z.1 m) (sym (ap is_at_slot z.1) ∙ at) in
          (ap length lab.0, (λ k h. let is : z.0.task ≡ k = times_one k z.0.task (subst (λ ys. 1 ≤ times k ys) lab.0 h) in (subst (λ y. y < task_count p) is z.4, subst (λ y. search_of p y ≡ q) is (z.5 ∙ z.2))))

      -- a batch with one result taken more
      taken_fits : (q t : ℕ) (l : Label) (x : Item) → find_item (is_batch q (t / p.batch)) v.hand ≡ some x → is_due t x ≡ true → get_elem? s.results (place_of p q t) ≡ some (holds l) → ItemFits p (taken_from x t l)
      taken_fits q t l x g m o = let z = batch_found q (t / p.batch) x g in let h = z.0 in let fits = z.4 in let has = due_now t h (subst (λ y. is_due t y ≡ true) z.1 m) in let range = due_range h t fits has in
          let lab = f.results q t l (subst (λ y. t < tasks_of p y) z.2 range.1) o in
          subst (λ y. ItemFits p (taken_from y t l)) (sym z.1) (record {
            size = let a = fits.size in let b = length_without t h.due has in let c : length (h.taken.tasks ++ l.tasks) ≡ length h.taken.tasks + length l.tasks = length-append h.taken.tasks l.tasks in let d = lab.0 in omega arith;
            search = λ k y. let a = times_append k h.taken.tasks l.tasks in dec_sum (times k h.taken.tasks) (times k l.tasks) (omega arith) (fits.search k) (λ w. let r = lab.1 k w in (r.0, r.1 ∙ sym z.2));
            real = fits.real;
            due = λ u. let a = times_without u t h.due has in let b = fits.due u in omega arith;
            told = λ _. let c : length (h.taken.tasks ++ l.tasks) ≡ length h.taken.tasks + length l.tasks = length-append h.taken.tasks l.tasks in let d = lab.0 in omega arith;
          })
        where
          dec_sum : {A : Type 0} (a b : ℕ) → 1 ≤ a + b → (1 ≤ a → A) → (1 ≤ b → A) → A
          dec_sum zero b h k m = m (omega arith)
          dec_sum (suc a) b h k m = k (omega arith)

      -- the batch that a last count brings
      due_fits : (q t n : ℕ) → t < tasks_of p q → Each (ItemFits p) (batch_due p q (t / p.batch) n)
      due_fits q t n range = let b : ℕ = t / p.batch in cond_both (n == batch_size p q b) (Batch (record { search = q; batch = b; due = numbers_from (b * p.batch) n; taken = no_label; at_slot = false }) ∷ []) [] (Each (ItemFits p))
          (λ y. let is : n ≡ batch_size p q b = eqb-true _ _ y in each_one (ItemFits p) _ (record {
            size = let a = numbers_length (b * p.batch) n in omega arith;
            search = λ k h. absurd (omega arith);
            real = ticket_batch q t range;
            due = λ u. subst (λ m. times u (numbers_from (b * p.batch) m) ≤ one_if (eqb (u / p.batch) b && ltb u (tasks_of p q))) (sym is) (batch_within p good q b u);
            told = λ y. absurd (false≢true y);
          }))
          (λ _. each_none (ItemFits p))

  -- every move keeps the labels fit
  pub labels_move : (s : ArrivalState) (m : Move) → HasShape p s → WordsFit p s → ResultsFit p s → CountsFit p s → L s → L (move p s m)
  labels_move s (claim i) h ws r c f = desk_keeps L s i _ _ f (λ v e _. drawn s f i v e)
  labels_move s (take_task i k) h ws r c f = item_keeps L s i _ _ _ f (λ v e x g _. desks_only s f _ refl refl (gives_one s f i v e (is_claimed k) (Loaded (record { task = k; failed = false })) (subst (ItemFits p) (as_claimed k x (found_is (is_claimed k) v.hand x g)) (fits_found s f i v e (is_claimed k) x g))))
  labels_move s (arrive i k) h ws r c f = item_keeps L s i _ _ _ f (λ v e x g _. let z = as_loaded k x (found_is (is_loaded k) v.hand x g) in let fits : ItemFits p (Loaded z.0) = subst (ItemFits p) z.1 (fits_found s f i v e (is_loaded k) x g) in
      let there : (k < task_count p) × (search_of p k ≡ search_of p k) = (subst (λ y. y < task_count p) z.2 fits, refl) in desks_only s f _ refl refl (gives_one s f i v e (is_loaded k) (Arrived (record { task = k; failed = is_marked x; search = search_of p k; ticket = get_or s.tickets (search_of p k) 0; at_slot = false })) there))
  labels_move s (put i q t l) h ws r c f = item_keeps L s i _ _ _ f (λ v e x g m. let range = in_range p good s i q t v x h ws r e g in by_test L (is_at_slot x) _ _
      (λ at. record {
        hands = gives_one s f i v e (is_arrived q t) (Put (record { search = q; ticket = t })) tt;
        results = slots_filled p (IsTicket p) (ResultFits p) ticket_first s.results q t l range (put_fits s f i v e q t l x range g m at) f.results;
        batches = f.batches;
        real = f.real;
      })
      (λ _. record {
        hands = gives_one s f i v e (is_arrived q t) (reached_item x) (reached_fits s f i v e x (fits_found s f i v e (is_arrived q t) x g));
        results = slots_bare p (IsTicket p) (ResultFits p) ticket_first s.results (place_of p q t) reached refl f.results;
        batches = f.batches;
        real = f.real;
      }))
  labels_move s (count i q t) h ws r c f = item_keeps L s i _ _ _ f (λ v e x g _. desks_only s f _ refl refl (gives s f i v e (is_put q t) (batch_due p q (t / p.batch) (get_or s.counts (place_of p q (t / p.batch)) 0 + 1)) (due_fits s f i v e q t (get_or s.counts (place_of p q (t / p.batch)) 0 + 1) (counted p good s i q t v x h ws c e g).0)))
  labels_move s (take_result i q t) h ws r c f = item_keeps L s i _ _ _ f (λ v e x g m. by_label L s _ _ f (λ l o. record {
    hands = gives_one s f i v e (is_batch q (t / p.batch)) (taken_from x t l) (taken_fits s f i v e q t l x g m o);
    results = slots_bare p (IsTicket p) (ResultFits p) ticket_first s.results (place_of p q t) emptied refl f.results;
    batches = f.batches;
    real = f.real;
  }))
  labels_move s (put_merged i q b l) h ws r c f = item_keeps L s i _ _ _ f (λ v e x g m. let z = batch_found s f i v e q b x g in let fits = z.4 in let m' = subst (λ y. may_put_merged l y ≡ true) z.1 m in by_test L (is_at_slot x) _ _
      (λ at. let lab = merged_label l z.0 m' (sym (ap is_at_slot z.1) ∙ at) in let none = none_due l z.0 m' in let there : IsBatch p q b = subst (λ y. y * p.batch < tasks_of p q) z.3 (subst (λ y. z.0.batch * p.batch < tasks_of p y) z.2 fits.real) in record {
        hands = gives s f i v e (is_batch q b) [] (each_none (ItemFits p));
        results = f.results;
        batches = slots_filled p (IsBatch p) (MergedFits p) batch_first s.batches q b l there
            (let a = fits.size in let d : length l.tasks ≡ length z.0.taken.tasks = ap length lab.tasks in let k : length z.0.due ≡ 0 = ap length none in let y : batch_size p z.0.search z.0.batch ≡ batch_size p q b = (λ j. batch_size p (z.2 j) (z.3 j)) in
            (omega arith, λ k y. let w = fits.search k (subst (λ ys. 1 ≤ times k ys) lab.tasks y) in (w.0, w.1 ∙ z.2))) f.batches;
        real = slots_filled p (IsTicket p) (λ r c m. IsBatch p r c) ticket_first s.batches q b l (batch_first q b there) there f.real;
      })
      (λ _. record {
        hands = gives_one s f i v e (is_batch q b) (reached_item x) (reached_fits s f i v e x (fits_found s f i v e (is_batch q b) x g));
        results = f.results;
        batches = slots_bare p (IsBatch p) (MergedFits p) batch_first s.batches (place_of p q b) reached refl f.batches;
        real = slots_bare p (IsTicket p) (λ r c l. IsBatch p r c) ticket_first s.batches (place_of p q b) reached refl f.real;
      }))
  labels_move s (split i k) h ws r c f = desk_keeps L s i _ _ f (λ v e _. desks_only s f _ refl refl (each_snoc (HandFits p) (set s.desks i (after_split v k)) (split_off k) (each_set (HandFits p) s.desks i (after_split v k) f.hands (f.hands i v e)) (each_none (ItemFits p))))
  labels_move s (join i j) h ws r c f = desk_keeps L s i _ _ f (λ v e m. desk_keeps L s j _ _ f (λ w d y. desks_only s f _ refl refl (each_set (HandFits p) (set s.desks i (after_join v w)) j spent_view (each_set (HandFits p) s.desks i (after_join v w) f.hands (f.hands i v e)) (each_none (ItemFits p)))))
  labels_move s (close i q b) h ws r c f = desk_keeps L s i _ _ f (λ v e m. by_label L s _ _ f (λ l o. let real = (close_guard p q b v m).real in let lab = f.batches q b l real o in record {
    hands = each_set (HandFits p) s.desks i (after_close v q b l) f.hands (each_append (ItemFits p) v.hand _ (f.hands i v e) (each_one (ItemFits p) (Closed (record { search = q; batch = b; taken = l })) (record { size = lab.0; search = lab.1; real = real })));
    results = f.results;
    batches = slots_bare p (IsBatch p) (MergedFits p) batch_first s.batches (place_of p q b) emptied refl f.batches;
    real = slots_bare p (IsTicket p) (λ r c l. IsBatch p r c) ticket_first s.batches (place_of p q b) emptied refl f.real;
  }))
  labels_move s (stop i k) h ws r c f = item_keeps L s i _ _ _ f (λ v e x g _. let z = as_loaded k x (found_is (is_loaded k) v.hand x g) in let fits : ItemFits p (Loaded z.0) = subst (ItemFits p) z.1 (fits_found s f i v e (is_loaded k) x g) in
      desks_only s f _ refl refl (gives_one s f i v e (is_loaded k) (Loaded (record { task = k; failed = true })) (subst (λ y. y < task_count p) z.2 fits)))
  labels_move s (stopped i q) h ws r c f = desk_keeps L s i _ _ f (λ v e _. desks_only s f _ refl refl (each_set (HandFits p) s.desks i (after_stopped v q (get_or s.stops q 0)) f.hands (f.hands i v e)))

  -- a fresh slot is not full
  none_full : {A : Type 0} (l : Label) → fresh ≡ holds l → A
  none_full l e = let a : is_full fresh ≡ is_full (holds l) = ap is_full e in absurd (omega arith)

  -- at the opening there is no label but the loads'
  pub labels_opened : L (opened p)
  labels_opened = record {
    hands = each_one (HandFits p) first_view (each_none (ItemFits p));
    results = λ q t l _ e. none_full l (first_slot (task_count p) _ (holds l) e);
    batches = λ q t l _ e. none_full l (first_slot (task_count p) _ (holds l) e);
    real = λ q t l _ e. none_full l (first_slot (task_count p) _ (holds l) e);
  }
