-- The two steps that put a result keep the rule, since each is a move.
use Rattle.std.proofs.Common.{◌≡◌, ◌≢◌, ℕ, ◌+◌, ◌≤◌, true, false, not, cond, ⊎_elim, List, [], ◌∷◌, set, sym, refl, ap, ◌∙◌, subst, arith}
use Rattle.std.proofs.lemmas.Bool.{or_left, false≢true}
use mathlib.Core.Option.{Option, none, some}
use lib.ListN.{get_elem?}
use Rattle.atomic_table.specs.Table.{Me, step, takes, gives, Allows}
use Rattle.arrival_moves.specs.declared.item.Item.{Item}
use Rattle.arrival_moves.specs.declared.item.Item.TheVariants.{Claimed, Loaded, Arrived, Put, Batch, Closed}
use Rattle.arrival_moves.specs.declared.label.Label.{Label}
use Rattle.arrival_moves.specs.declared.plan.Plan.{Plan}
use Rattle.arrival_moves.specs.declared.view.View.{View}
use Rattle.arrival_table.specs.declared.cell.Cell.{Cell}
use Rattle.arrival_table.specs.declared.cell.Cell.TheVariants.{Vacant, Outcome}
use Rattle.arrival_table.specs.declared.known.Known.{Known}
use Rattle.arrival_moves.specs.AfterMove.{reached_item, after_reach_result, after_put}
use Rattle.arrival_moves.specs.Guards.{may_put}
use Rattle.arrival_moves.specs.Hands.{find_item}
use Rattle.arrival_moves.specs.Items.{is_arrived, is_at_slot}
use Rattle.arrival_moves.specs.Moves.{ArrivalState, put, run}
use Rattle.arrival_moves.specs.Plans.{task_count, place_of, IsPlan}
use Rattle.arrival_moves.specs.Slots.{fresh, reached, holds}
use Rattle.arrival_table.specs.Outs.{knows, now_has_out}
use Rattle.arrival_table.specs.Steps.{IsReached, IsOutcomeAt, ReachesResult, PutsResult, result_slot}
use Rattle.arrival_moves.proofs.Cases.{found_is, find_again, exchanged_again}
use Rattle.list_laws.proofs.Places.{at_set, set_else, set_here}
use Rattle.arrival_moves.proofs.TaskPlaces.{place_within}
use Rattle.arrival_moves.proofs.Reached.{fresh_there}
use Rattle.arrival_moves.proofs.Results.{in_range}
use Rattle.arrival_moves.proofs.Runs.{kept_run, move_item_is}
use Rattle.arrival_table.proofs.Allowed.{again, desk_there, desks_now, load_stays, outcome_stays}
use Rattle.arrival_table.proofs.Lists.{set_word}
use Rattle.arrival_table.proofs.Outs.{out_taken, out_given}
use Rattle.list_laws.proofs.Places.{there_below}

-- a desk that is not yet at the slot may come to it
pub away_may : (q t : ℕ) (v : View) (l : Label) (x : Item) → is_arrived q t x ≡ true → is_at_slot x ≡ false → may_put v q l x ≡ true
away_may q t v l (Claimed j) h e = absurd (false≢true h)
away_may q t v l (Loaded z) h e = absurd (false≢true h)
away_may q t v l (Arrived z) h e = or_left (not z.at_slot) _ (ap not e)
away_may q t v l (Put z) h e = absurd (false≢true h)
away_may q t v l (Batch z) h e = absurd (false≢true h)
away_may q t v l (Closed z) h e = absurd (false≢true h)

-- at the slot it is the same ticket
still_arrived : (q t : ℕ) (x : Item) → is_arrived q t x ≡ true → is_arrived q t (reached_item x) ≡ true
still_arrived q t (Claimed j) h = h
still_arrived q t (Loaded z) h = h
still_arrived q t (Arrived z) h = h
still_arrived q t (Put z) h = h
still_arrived q t (Batch z) h = h
still_arrived q t (Closed z) h = h

now_at_slot : (q t : ℕ) (x : Item) → is_arrived q t x ≡ true → is_at_slot (reached_item x) ≡ true
now_at_slot q t (Claimed j) h = absurd (false≢true h)
now_at_slot q t (Loaded z) h = absurd (false≢true h)
now_at_slot q t (Arrived z) h = refl
now_at_slot q t (Put z) h = absurd (false≢true h)
now_at_slot q t (Batch z) h = absurd (false≢true h)
now_at_slot q t (Closed z) h = absurd (false≢true h)

module _ {A R : Type 0} (load : A → Label) (outcome : R → Label) (p : Plan) (good : IsPlan p) where
  abbrev M : Type 0
  M = Me (Cell A R) Known

  -- the desk comes to the slot, and then the result is in it
  unfoldable pub allows_reach : (slots id q t : ℕ) (me : M) (x : Item) (l : Label) → find_item (is_arrived q t) me.0.view.hand ≡ some x → is_at_slot x ≡ false → may_put me.0.view q l x ≡ true
      → Allows (IsReached load outcome p) slots id me 0 (λ n. n) (ReachesResult load outcome p q t (step slots 0 0 0 none) me)
  allows_reach slots id q t me x l found shut may s r _ here fits = let b : ArrivalState = run p r.0 in let f = kept_run p good r.0 in let v : View = me.0.view in let j : ℕ = place_of p q t in let at : ℕ = task_count p + j in
      let there : get_elem? b.desks id ≡ some v = desk_there load outcome p good s b id me.0 r.1 here in
      let range = place_within p q t (in_range p good b id q t v x f.shape f.words f.results there found) in
      let old = r.1.results j fresh (fresh_there p good b id q t v x f.shape f.words f.results f.reached there found shut) in
      let ts : List (Option (Cell A R)) = set s.homes at none in let w : View = after_reach_result v q t x in let d : Known = now_has_out me.0 w at in let n = f.shape.loads in (
        d,
        takes at Vacant,
        old,
        again load outcome p good s _ r (put id q t l) _ (move_item_is b id _ _ _ v x there found may ∙ ap (λ c. cond c (record b { results = set b.results j (holds l); desks = set b.desks id (after_put v q t) }) (record b { results = set b.results j reached; desks = set b.desks id w })) shut) (record {
          words = set_word s.words 0 ∙ r.1.words;
          desks = desks_now load outcome p good s b id d r.1;
          loads = λ k z e. let a = there_below b.loads k z e in load_stays load outcome p good s.homes ts k z (set_else s.homes at k none (λ y. omega arith)) (r.1.loads k z e);
          results = λ k z e. ⊎_elim (λ (y : (k ≡ j) × (reached ≡ z)). subst (IsOutcomeAt load outcome ts (task_count p + k)) y.1 tt)
              (λ (y : (k ≢ j) × (get_elem? b.results k ≡ some z)). outcome_stays load outcome p good s.homes ts (task_count p + k) z (set_else s.homes at (task_count p + k) none (λ u. y.0 (omega arith))) (r.1.results k z y.1)) (at_set b.results j k reached z e);
          batches = λ k z e. outcome_stays load outcome p good s.homes ts (task_count p + task_count p + k) z (set_else s.homes at (task_count p + task_count p + k) none (λ u. omega arith)) (r.1.batches k z e);
        }) (out_taken s.homes s.views id at Vacant me.0 d r.2 here old refl),
        (x, found, refl, in_range p good b id q t v x f.shape f.words f.results there found),
      )

  unfoldable pub allows_put : (slots id q t : ℕ) (v : View) (x : Item) (y : R) → task_count p + task_count p ≤ slots → find_item (is_arrived q t) v.hand ≡ some x → is_at_slot x ≡ true → may_put v q (outcome y) x ≡ true
      → let me : M = (now_has_out (knows v) v (result_slot p q t), (result_slot p q t, Outcome y) ∷ []) in Allows (IsReached load outcome p) slots id me 0 (λ n. n) (PutsResult load outcome q t (step slots 0 0 0 none) me)
  allows_put slots id q t v x y wide found open_now may s r len here fits = let b : ArrivalState = run p r.0 in let f = kept_run p good r.0 in let j : ℕ = place_of p q t in let at : ℕ = task_count p + j in let l : Label = outcome y in
      let was : Known = now_has_out (knows v) v at in let there : get_elem? b.desks id ≡ some v = desk_there load outcome p good s b id was r.1 here in
      let range = place_within p q t (in_range p good b id q t v x f.shape f.words f.results there found) in
      let ts : List (Option (Cell A R)) = set s.homes at (some (Outcome y)) in let w : View = after_put v q t in let d : Known = knows w in let n = f.shape.loads in (
        d,
        gives,
        tt,
        again load outcome p good s _ r (put id q t l) _ (move_item_is b id _ _ _ v x there found may ∙ ap (λ c. cond c (record b { results = set b.results j (holds l); desks = set b.desks id w }) (record b { results = set b.results j reached; desks = set b.desks id (after_reach_result v q t x) })) open_now) (record {
          words = set_word s.words 0 ∙ r.1.words;
          desks = desks_now load outcome p good s b id d r.1;
          loads = λ k z e. let a = there_below b.loads k z e in load_stays load outcome p good s.homes ts k z (set_else s.homes at k (some (Outcome y)) (λ y. omega arith)) (r.1.loads k z e);
          results = λ k z e. ⊎_elim (λ (u : (k ≡ j) × (holds l ≡ z)). subst (IsOutcomeAt load outcome ts (task_count p + k)) u.1 (y, subst (λ (i : ℕ). get_elem? ts (task_count p + i) ≡ some (some (Outcome y))) (sym u.0) (set_here s.homes at (some (Outcome y)) (omega arith)), refl))
              (λ (u : (k ≢ j) × (get_elem? b.results k ≡ some z)). outcome_stays load outcome p good s.homes ts (task_count p + k) z (set_else s.homes at (task_count p + k) (some (Outcome y)) (λ d. u.0 (omega arith))) (r.1.results k z u.1)) (at_set b.results j k (holds l) z e);
          batches = λ k z e. outcome_stays load outcome p good s.homes ts (task_count p + task_count p + k) z (set_else s.homes at (task_count p + task_count p + k) (some (Outcome y)) (λ u. omega arith)) (r.1.batches k z e);
        }) (out_given s.homes s.views id at (Outcome y) was d [] r.2 here refl refl),
        refl,
      )

  -- the same under the names that the table and the step give the plan, the search and the ticket
  pub allows_reach_at : (l : Plan) (slots id q t : ℕ) (d : Plan) (a b : ℕ) (me : M) (x : Item) (y : Label) → l ≡ p → d ≡ p → a ≡ q → b ≡ t → find_item (is_arrived q t) me.0.view.hand ≡ some x → is_at_slot x ≡ false
      → Allows (IsReached load outcome l) slots id me 0 (λ n. n) (ReachesResult load outcome d a b (step slots 0 0 0 none) me)
  allows_reach_at l slots id q t d a b me x y e g h k found shut = let Q : Plan × Plan × ℕ × ℕ → Type 0 = λ z. Allows (IsReached load outcome z.0) slots id me 0 (λ n. n) (ReachesResult load outcome z.1 z.2 z.3 (step slots 0 0 0 none) me) in
      subst Q (λ i. (sym e i, sym g i, sym h i, sym k i)) (allows_reach slots id q t me x y found shut (away_may q t me.0.view y x (found_is (is_arrived q t) me.0.view.hand x found) shut))

  pub allows_put_at : (l : Plan) (slots id q t a b : ℕ) (me : M) (v : View) (x : Item) (y : R) → l ≡ p → a ≡ q → b ≡ t → task_count p + task_count p ≤ slots → find_item (is_arrived q t) v.hand ≡ some x → is_at_slot x ≡ false → may_put v q (outcome y) (reached_item x) ≡ true
      → me ≡ (now_has_out (knows v) (after_reach_result v q t x) (result_slot p q t), (result_slot p q t, Outcome y) ∷ []) → Allows (IsReached load outcome l) slots id me 0 (λ n. n) (PutsResult load outcome a b (step slots 0 0 0 none) me)
  allows_put_at l slots id q t a b me v x y e g h wide found shut may all = let yes = found_is (is_arrived q t) v.hand x found in
      let Q : Plan × ℕ × ℕ × M → Type 0 = λ z. Allows (IsReached load outcome z.0) slots id z.3 0 (λ n. n) (PutsResult load outcome z.1 z.2 (step slots 0 0 0 none) z.3) in
      subst Q (λ i. (sym e i, sym g i, sym h i, sym all i))
      (allows_put slots id q t (after_reach_result v q t x) (reached_item x) y wide (find_again (is_arrived q t) (reached_item x) x v.hand (still_arrived q t x yes) found) (now_at_slot q t x yes) may)

-- the two steps together
pub put_view : (q t : ℕ) (v : View) (x : Item) → find_item (is_arrived q t) v.hand ≡ some x → after_put (after_reach_result v q t x) q t ≡ after_put v q t
put_view q t v x found = ap (λ h. record v { hand = h }) (exchanged_again (is_arrived q t) (reached_item x) x (Put (record { search = q; ticket = t }) ∷ []) v.hand (still_arrived q t x (found_is (is_arrived q t) v.hand x found)) found)
