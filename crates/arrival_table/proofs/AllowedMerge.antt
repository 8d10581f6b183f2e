-- The steps of a batch in hand keep the rule, since each is a move: its results are taken and the merged one is put.
use Rattle.std.proofs.Common.{◌≡◌, ◌≢◌, ℕ, ◌+◌, ◌/◌, ◌<◌, ◌≤◌, ◌&&◌, ltb, true, false, cond, ⊎_elim, List, [], ◌∷◌, length, set, sym, refl, ap, ◌∙◌, subst, arith}
use Rattle.std.proofs.lemmas.Bool.{false≢true}
use mathlib.Core.Option.{Option, none, some}
use lib.ListN.{get_elem?}
use Rattle.atomic_table.specs.Table.{Me, step, takes, gives, Allows}
use Rattle.arrival_moves.specs.declared.item.Item.{Item}
use Rattle.arrival_moves.specs.declared.item.Item.TheVariants.{Claimed, Loaded, Arrived, Put, Batch, Closed}
use Rattle.arrival_moves.specs.declared.label.Label.{Label}
use Rattle.arrival_moves.specs.declared.plan.Plan.{Plan}
use Rattle.arrival_moves.specs.declared.view.View.{View}
use Rattle.arrival_table.specs.declared.cell.Cell.{Cell}
use Rattle.arrival_table.specs.declared.cell.Cell.TheVariants.{Vacant, Outcome}
use Rattle.arrival_table.specs.declared.known.Known.{Known}
use Rattle.arrival_moves.specs.AfterMove.{reached_item, after_take_result, after_reach_batch, after_put_merged}
use Rattle.arrival_moves.specs.Fairness.{IsOfSearch}
use Rattle.arrival_moves.specs.Guards.{may_put_merged}
use Rattle.arrival_moves.specs.Hands.{find_item}
use Rattle.arrival_moves.specs.Items.{in_item, is_batch, is_due, is_at_slot}
use Rattle.arrival_moves.specs.Labels.{task_times}
use Rattle.arrival_moves.specs.Moves.{ArrivalState, take_result, put_merged, run, move_label}
use Rattle.arrival_moves.specs.Plans.{task_count, tasks_of, place_of, IsPlan}
use Rattle.arrival_moves.specs.Slots.{Slot, fresh, reached, holds, emptied, in_slot}
use Rattle.arrival_table.specs.Holding.{AreNew, found_item, item_or, taken_in}
use Rattle.arrival_table.specs.Outs.{knows, now_has_out}
use Rattle.arrival_table.specs.Steps.{IsReached, IsOutcomeAt, TakesResult, ReachesBatch, PutsMerged, batch_slot}
use Rattle.arrival_moves.proofs.Alone.{due_there}
use Rattle.arrival_moves.proofs.Batches.{held_real, fresh_batch, hands_has}
use Rattle.arrival_moves.proofs.Cases.{found_is, find_again, exchanged_again}
use Rattle.arrival_moves.proofs.LabelsFit.{batch_found, due_range, due_now, batch_first}
use Rattle.list_laws.proofs.Places.{at_set, set_else, set_here}
use Rattle.arrival_moves.proofs.TaskPlaces.{place_within}
use Rattle.arrival_moves.proofs.OneIf.{one_if_le}
use Rattle.arrival_moves.proofs.Runs.{IsKept, kept_run, move_item_is}
use Rattle.list_laws.proofs.PlaceSums.{sum_by_has}
use Rattle.arrival_table.proofs.Allowed.{again, desk_there, desks_now, load_stays, outcome_stays}
use Rattle.arrival_table.proofs.Lists.{set_word}
use Rattle.arrival_table.proofs.Outs.{out_taken, out_given}
use Rattle.list_laws.proofs.Places.{there_below}

-- at the slot it is the same batch
still_batch : (q b : ℕ) (x : Item) → is_batch q b x ≡ true → is_batch q b (reached_item x) ≡ true
still_batch q b (Claimed j) h = h
still_batch q b (Loaded z) h = h
still_batch q b (Arrived z) h = h
still_batch q b (Put z) h = h
still_batch q b (Batch z) h = h
still_batch q b (Closed z) h = h

batch_at_slot : (q b : ℕ) (x : Item) → is_batch q b x ≡ true → is_at_slot (reached_item x) ≡ true
batch_at_slot q b (Claimed j) h = absurd (false≢true h)
batch_at_slot q b (Loaded z) h = absurd (false≢true h)
batch_at_slot q b (Arrived z) h = absurd (false≢true h)
batch_at_slot q b (Put z) h = absurd (false≢true h)
batch_at_slot q b (Batch z) h = refl
batch_at_slot q b (Closed z) h = absurd (false≢true h)

pub label_is : (s : ArrivalState) (act : Label → ArrivalState) (o : Option Slot) (l : Label) → o ≡ some (holds l) → move_label s act o ≡ act l
unfolding move_label
label_is s act o l e = ap (move_label s act) e

-- an item stands for what was taken into it
taken_le : (k : ℕ) (x : Item) → task_times k (taken_in x) ≤ in_item (task_times k) x
taken_le k (Claimed j) = omega arith
taken_le k (Loaded z) = omega arith
taken_le k (Arrived z) = omega arith
taken_le k (Put z) = omega arith
taken_le k (Batch z) = omega arith
taken_le k (Closed z) = omega arith

-- each task is at one place, so none that is taken is among those that were
pub are_new : (p : Plan) (good : IsPlan p) (b : ArrivalState) → IsKept p b → (i q t : ℕ) (v : View) (x : Item) (l : Label) → get_elem? b.desks i ≡ some v → find_item (is_batch q (t / p.batch)) v.hand ≡ some x
    → get_elem? b.results (place_of p q t) ≡ some (holds l) → AreNew q (t / p.batch) v l
are_new p good b f i q t v x l there found full k =
    let is : found_item (is_batch q (t / p.batch)) v ≡ x = ap item_or found in
    let once = f.tasks.once k in let most = one_if_le (ltb k b.claimed && ltb k (task_count p)) in
    let hand = hands_has (in_item (task_times k)) b.desks i v (is_batch q (t / p.batch)) x there found in
    let slot = sum_by_has (in_slot (task_times k)) b.results (place_of p q t) (holds l) full in
    let low = taken_le k x in
    subst (λ (y : Item). task_times k (taken_in y) + task_times k l ≤ 1) (sym is) (omega (arith, once, most, hand, slot, low))

module _ {A R : Type 0} (load : A → Label) (outcome : R → Label) (p : Plan) (good : IsPlan p) where
  abbrev M : Type 0
  M = Me (Cell A R) Known

  -- the result of a due ticket is taken
  unfoldable pub allows_take_result : (slots id q t : ℕ) (me : M) (x : Item) → find_item (is_batch q (t / p.batch)) me.0.view.hand ≡ some x → is_due t x ≡ true
      → Allows (IsReached load outcome p) slots id me 0 (λ n. n) (TakesResult load outcome p q t (step slots 0 0 0 none) me)
  allows_take_result slots id q t me x found due s r _ here fits = let b : ArrivalState = run p r.0 in let f = kept_run p good r.0 in let v : View = me.0.view in let j : ℕ = place_of p q t in let at : ℕ = task_count p + j in
      let there : get_elem? b.desks id ≡ some v = desk_there load outcome p good s b id me.0 r.1 here in
      let full = due_there p good b f id q t v x there found due in let l : Label = full.0 in
      let old = r.1.results j (holds l) full.1 in let y : R = old.0 in
      let z = batch_found p good b f.labels id v there q (t / p.batch) x found in let range : t < tasks_of p q = subst (λ n. t < tasks_of p n) z.2 (due_range p good z.0 t z.4 (due_now t z.0 (subst (λ n. is_due t n ≡ true) z.1 due))).1 in
      let within = place_within p q t range in
      let ts : List (Option (Cell A R)) = set s.homes at none in let w : View = after_take_result p v q t x (outcome y) in let d : Known = now_has_out me.0 w at in let n = f.shape.loads in
      let to = label_is b (λ m. record b { results = set b.results j emptied; desks = set b.desks id (after_take_result p v q t x m) }) (get_elem? b.results j) l full.1 in
      let to_label : record b { results = set b.results j emptied; desks = set b.desks id (after_take_result p v q t x l) } ≡ record b { results = set b.results j emptied; desks = set b.desks id w } = ap (λ m. record b { results = set b.results j emptied; desks = set b.desks id (after_take_result p v q t x m) }) (sym old.2) in (
        d,
        takes at (Outcome y),
        old.1,
        again load outcome p good s _ r (take_result id q t) _ (move_item_is b id _ _ _ v x there found due ∙ (to ∙ to_label)) (record {
          words = set_word s.words 0 ∙ r.1.words;
          desks = desks_now load outcome p good s b id d r.1;
          loads = λ k z e. let a = there_below b.loads k z e in load_stays load outcome p good s.homes ts k z (set_else s.homes at k none (λ y. omega arith)) (r.1.loads k z e);
          results = λ k z e. ⊎_elim (λ (y : (k ≡ j) × (emptied ≡ z)). subst (IsOutcomeAt load outcome ts (task_count p + k)) y.1 tt)
              (λ (y : (k ≢ j) × (get_elem? b.results k ≡ some z)). outcome_stays load outcome p good s.homes ts (task_count p + k) z (set_else s.homes at (task_count p + k) none (λ u. y.0 (omega arith))) (r.1.results k z y.1)) (at_set b.results j k emptied z e);
          batches = λ k z e. outcome_stays load outcome p good s.homes ts (task_count p + task_count p + k) z (set_else s.homes at (task_count p + task_count p + k) none (λ u. omega arith)) (r.1.batches k z e);
        }) (out_taken s.homes s.views id at (Outcome y) me.0 d r.2 here old.1 refl),
        (
          x,
          found,
          y,
          refl,
          range,
          ap (λ m. length m.tasks) old.2 ∙ full.2,
          subst (IsOfSearch p q) (sym old.2) full.3,
          subst (AreNew q (t / p.batch) v) (sym old.2) (are_new p good b f id q t v x l there found full.1),
        ),
      )

  -- the desk comes to the slot of its batch, and then the merged result is in it
  unfoldable pub allows_reach : (slots id q c : ℕ) (me : M) (x : Item) (l : Label) → find_item (is_batch q c) me.0.view.hand ≡ some x → is_at_slot x ≡ false → may_put_merged l x ≡ true
      → Allows (IsReached load outcome p) slots id me 0 (λ n. n) (ReachesBatch load outcome p q c (step slots 0 0 0 none) me)
  allows_reach slots id q c me x l found shut may s r _ here fits = let b : ArrivalState = run p r.0 in let f = kept_run p good r.0 in let v : View = me.0.view in let j : ℕ = place_of p q c in let at : ℕ = task_count p + task_count p + j in
      let there : get_elem? b.desks id ≡ some v = desk_there load outcome p good s b id me.0 r.1 here in
      let range = batch_first p good q c (held_real p good b f.shape f.labels f.batches id q c v x there found) in let within = place_within p q c range in
      let old = r.1.batches j fresh (fresh_batch p good b f.shape f.labels f.batches id q c v x there found shut) in
      let ts : List (Option (Cell A R)) = set s.homes at none in let w : View = after_reach_batch v q c x in let d : Known = now_has_out me.0 w at in let n = f.shape.loads in let m = f.shape.results in (
        d,
        takes at Vacant,
        old,
        again load outcome p good s _ r (put_merged id q c l) _ (move_item_is b id _ _ _ v x there found may ∙ ap (λ y. cond y (record b { batches = set b.batches j (holds l); desks = set b.desks id (after_put_merged v q c) }) (record b { batches = set b.batches j reached; desks = set b.desks id w })) shut) (record {
          words = set_word s.words 0 ∙ r.1.words;
          desks = desks_now load outcome p good s b id d r.1;
          loads = λ k z e. let a = there_below b.loads k z e in load_stays load outcome p good s.homes ts k z (set_else s.homes at k none (λ y. omega arith)) (r.1.loads k z e);
          results = λ k z e. let a = there_below b.results k z e in outcome_stays load outcome p good s.homes ts (task_count p + k) z (set_else s.homes at (task_count p + k) none (λ u. omega arith)) (r.1.results k z e);
          batches = λ k z e. ⊎_elim (λ (y : (k ≡ j) × (reached ≡ z)). subst (IsOutcomeAt load outcome ts (task_count p + task_count p + k)) y.1 tt)
              (λ (y : (k ≢ j) × (get_elem? b.batches k ≡ some z)). outcome_stays load outcome p good s.homes ts (task_count p + task_count p + k) z (set_else s.homes at (task_count p + task_count p + k) none (λ u. y.0 (omega arith))) (r.1.batches k z y.1)) (at_set b.batches j k reached z e);
        }) (out_taken s.homes s.views id at Vacant me.0 d r.2 here old refl),
        (x, found, refl, range),
      )

  unfoldable pub allows_put_merged : (slots id q c : ℕ) (v : View) (x : Item) (y : R) → task_count p + task_count p + task_count p ≤ slots → find_item (is_batch q c) v.hand ≡ some x → is_at_slot x ≡ true → may_put_merged (outcome y) x ≡ true
      → let me : M = (now_has_out (knows v) v (batch_slot p q c), (batch_slot p q c, Outcome y) ∷ []) in Allows (IsReached load outcome p) slots id me 0 (λ n. n) (PutsMerged load outcome q c (step slots 0 0 0 none) me)
  allows_put_merged slots id q c v x y wide found open_now may s r len here fits = let b : ArrivalState = run p r.0 in let f = kept_run p good r.0 in let j : ℕ = place_of p q c in let at : ℕ = task_count p + task_count p + j in let l : Label = outcome y in
      let was : Known = now_has_out (knows v) v at in let there : get_elem? b.desks id ≡ some v = desk_there load outcome p good s b id was r.1 here in
      let range = batch_first p good q c (held_real p good b f.shape f.labels f.batches id q c v x there found) in let within = place_within p q c range in
      let ts : List (Option (Cell A R)) = set s.homes at (some (Outcome y)) in let w : View = after_put_merged v q c in let d : Known = knows w in let n = f.shape.loads in let m = f.shape.results in (
        d,
        gives,
        tt,
        again load outcome p good s _ r (put_merged id q c l) _ (move_item_is b id _ _ _ v x there found may ∙ ap (λ y. cond y (record b { batches = set b.batches j (holds l); desks = set b.desks id w }) (record b { batches = set b.batches j reached; desks = set b.desks id (after_reach_batch v q c x) })) open_now) (record {
          words = set_word s.words 0 ∙ r.1.words;
          desks = desks_now load outcome p good s b id d r.1;
          loads = λ k z e. let a = there_below b.loads k z e in load_stays load outcome p good s.homes ts k z (set_else s.homes at k (some (Outcome y)) (λ y. omega arith)) (r.1.loads k z e);
          results = λ k z e. let a = there_below b.results k z e in outcome_stays load outcome p good s.homes ts (task_count p + k) z (set_else s.homes at (task_count p + k) (some (Outcome y)) (λ u. omega arith)) (r.1.results k z e);
          batches = λ k z e. ⊎_elim (λ (u : (k ≡ j) × (holds l ≡ z)). subst (IsOutcomeAt load outcome ts (task_count p + task_count p + k)) u.1 (y, subst (λ (i : ℕ). get_elem? ts (task_count p + task_count p + i) ≡ some (some (Outcome y))) (sym u.0) (set_here s.homes at (some (Outcome y)) (omega arith)), refl))
              (λ (u : (k ≢ j) × (get_elem? b.batches k ≡ some z)). outcome_stays load outcome p good s.homes ts (task_count p + task_count p + k) z (set_else s.homes at (task_count p + task_count p + k) (some (Outcome y)) (λ d. u.0 (omega arith))) (r.1.batches k z u.1)) (at_set b.batches j k (holds l) z e);
        }) (out_given s.homes s.views id at (Outcome y) was d [] r.2 here refl refl),
        refl,
      )

  -- the same under the names that the table and the step give the plan, the search and the number
  pub allows_take_result_at : (l : Plan) (slots id q t : ℕ) (d : Plan) (a b : ℕ) (me : M) (x : Item) → l ≡ p → d ≡ p → a ≡ q → b ≡ t → find_item (is_batch q (t / p.batch)) me.0.view.hand ≡ some x → is_due t x ≡ true
      → Allows (IsReached load outcome l) slots id me 0 (λ n. n) (TakesResult load outcome d a b (step slots 0 0 0 none) me)
  allows_take_result_at l slots id q t d a b me x e g h k found due = let Q : Plan × Plan × ℕ × ℕ → Type 0 = λ z. Allows (IsReached load outcome z.0) slots id me 0 (λ n. n) (TakesResult load outcome z.1 z.2 z.3 (step slots 0 0 0 none) me) in
      subst Q (λ i. (sym e i, sym g i, sym h i, sym k i)) (allows_take_result slots id q t me x found due)

  pub allows_reach_at : (l : Plan) (slots id q c : ℕ) (d : Plan) (a b : ℕ) (me : M) (x : Item) (y : Label) → l ≡ p → d ≡ p → a ≡ q → b ≡ c → find_item (is_batch q c) me.0.view.hand ≡ some x → is_at_slot x ≡ false → may_put_merged y x ≡ true
      → Allows (IsReached load outcome l) slots id me 0 (λ n. n) (ReachesBatch load outcome d a b (step slots 0 0 0 none) me)
  allows_reach_at l slots id q c d a b me x y e g h k found shut may = let Q : Plan × Plan × ℕ × ℕ → Type 0 = λ z. Allows (IsReached load outcome z.0) slots id me 0 (λ n. n) (ReachesBatch load outcome z.1 z.2 z.3 (step slots 0 0 0 none) me) in
      subst Q (λ i. (sym e i, sym g i, sym h i, sym k i)) (allows_reach slots id q c me x y found shut may)

  pub allows_put_merged_at : (l : Plan) (slots id q c a b : ℕ) (me : M) (v : View) (x : Item) (y : R) → l ≡ p → a ≡ q → b ≡ c → task_count p + task_count p + task_count p ≤ slots → find_item (is_batch q c) v.hand ≡ some x → is_at_slot x ≡ false → may_put_merged (outcome y) (reached_item x) ≡ true
      → me ≡ (now_has_out (knows v) (after_reach_batch v q c x) (batch_slot p q c), (batch_slot p q c, Outcome y) ∷ []) → Allows (IsReached load outcome l) slots id me 0 (λ n. n) (PutsMerged load outcome a b (step slots 0 0 0 none) me)
  allows_put_merged_at l slots id q c a b me v x y e g h wide found shut may all = let yes = found_is (is_batch q c) v.hand x found in
      let Q : Plan × ℕ × ℕ × M → Type 0 = λ z. Allows (IsReached load outcome z.0) slots id z.3 0 (λ n. n) (PutsMerged load outcome z.1 z.2 (step slots 0 0 0 none) z.3) in
      subst Q (λ i. (sym e i, sym g i, sym h i, sym all i))
      (allows_put_merged slots id q c (after_reach_batch v q c x) (reached_item x) y wide (find_again (is_batch q c) (reached_item x) x v.hand (still_batch q c x yes) found) (batch_at_slot q c x yes) may)

-- the two steps together
pub merged_view : (q c : ℕ) (v : View) (x : Item) → find_item (is_batch q c) v.hand ≡ some x → after_put_merged (after_reach_batch v q c x) q c ≡ after_put_merged v q c
merged_view q c v x found = ap (λ h. record v { hand = h }) (exchanged_again (is_batch q c) (reached_item x) x [] v.hand (still_batch q c x (found_is (is_batch q c) v.hand x found)) found)
