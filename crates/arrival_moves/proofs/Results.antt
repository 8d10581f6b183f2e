-- Each ticket is one task's: a desk has it with its task, or its result was put.
use Rattle.std.proofs.Common.{◌≡◌, ◌≢◌, ℕ, ◌+◌, ◌/◌, ◌<◌, ◌≤◌, ⊎_elim, Bool, true, false, ◌&&◌, eqb, ltb, get_or, List, [], ◌∷◌, ◌++◌, length, set, sym, refl, ap, ◌∙◌, subst, arith, get_or-set_same, get_or-set_other}
use Rattle.std.proofs.lemmas.Bool.{and_parts, and_from, eqb-true, eq-eqb}
use mathlib.Core.Option.{some}
use mathlib.Core.Logic.{dite}
use native.Mathlib.Decide.{ℕ_discrete, dec_lt}
use lib.ListN.{get_elem?}
use Rattle.list_laws.proofs.Places.{at_set}
use Rattle.arrival_moves.specs.AfterMove.{spent_view, reached_item, after_claim, after_take_task, after_arrive, after_put, after_reach_result, after_count, after_stop, after_take_result, taken_from, batch_due, after_put_merged, after_reach_batch, after_split, split_off, after_join, after_close, after_stopped}
use Rattle.arrival_moves.specs.Hands.{in_hands, find_item}
use Rattle.arrival_moves.specs.Items.{arrived_at, is_loaded, is_arrived, is_batch, is_at_slot}
use Rattle.arrival_moves.specs.Lists.{one_if}
use Rattle.arrival_moves.specs.Moves.{ArrivalState, Move, claim, take_task, arrive, put, count, take_result, put_merged, split, join, close, stop, stopped, move, opened}
use Rattle.arrival_moves.specs.Plans.{task_count, place_of, search_of, tasks_of, IsPlan}
use Rattle.arrival_moves.specs.Slots.{Slot, fresh, reached, holds, emptied, was_put}
use Rattle.arrival_moves.specs.declared.item.Item.{Item}
use Rattle.arrival_moves.specs.declared.item.Item.TheVariants.{Claimed, Loaded, Put, Closed}
use Rattle.arrival_moves.specs.declared.label.Label.{Label}
use Rattle.arrival_moves.specs.declared.plan.Plan.{Plan}
use Rattle.arrival_moves.specs.declared.view.View.{View}
use Rattle.arrival_moves.proofs.Cases.{desk_keeps, item_keeps, by_label, hands_exchanged}
use Rattle.list_laws.proofs.PlaceTests.{by_test}
use Rattle.arrival_moves.proofs.Items.{hands_more, hands_same, claimed_gives, loaded_gives, arrived_gives, put_gives, batch_gives}
use Rattle.arrival_moves.specs.Fairness.{HasShape}
use Rattle.arrival_moves.proofs.Quiet.{quiet_reached, lt_one, lt_none, IsQuiet, batch_due_none, taken_none, hands_split, hands_join, apart_from, bare}
use Rattle.arrival_moves.proofs.Loads.{arrived_items}
use Rattle.arrival_moves.proofs.Words.{WordsFit, arrived, drawn_le, zeros}
use Rattle.arrival_moves.proofs.TaskPlaces.{places_apart, place_within}
use Rattle.arrival_moves.proofs.OneIf.{one_if_le}
use Rattle.arrival_moves.proofs.SlotStates.{alike_here, alike_set, has_slot, first_slot}

pub record ResultsFit (p : Plan) (s : ArrivalState) : Type 0 where
  pub below : (q t : ℕ) → in_hands (arrived_at q t) s.desks ≤ one_if (ltb t (get_or s.tickets q 0))
  pub once : (q t : ℕ) (x : Slot) → t < tasks_of p q → get_elem? s.results (place_of p q t) ≡ some x → in_hands (arrived_at q t) s.desks + was_put x ≡ one_if (ltb t (get_or s.tickets q 0))

-- the number of a ticket in hand knows no batch and no slot
pub arrived_quiet : (q t : ℕ) → IsQuiet (arrived_at q t)
arrived_quiet q t = record { arrived = λ z. refl; batch = λ z. refl; closed = λ z. refl }

-- two equal pairs count 1
pub both_one : (a b c d : ℕ) → a ≡ c → b ≡ d → one_if (eqb a c && eqb b d) ≡ 1
both_one a b c d e f = ap one_if (and_from _ _ (eq-eqb a c e) (eq-eqb b d f))

-- and others 0
pub both_none : (a b c d : ℕ) → ((a ≡ c) × (b ≡ d) → ⊥) → one_if (eqb a c && eqb b d) ≡ 0
both_none a b c d n = by_cases (eqb a c && eqb b d) (λ y. let g = and_parts _ _ y in n (eqb-true a c g.0, eqb-true b d g.1))
  where
    by_cases : (b : Bool) → (b ≡ true → ⊥) → one_if b ≡ 0
    by_cases true h = absurd (h refl)
    by_cases false h = refl

module _ (p : Plan) (good : IsPlan p) where
  abbrev R : ArrivalState → Type 0
  R = ResultsFit p

  -- the hands and the tickets stay, and each slot is put or not as before
  results_same : (s t : ArrivalState) (vs : List View) → R s → t.tickets ≡ s.tickets → t.desks ≡ vs → ((q n : ℕ) → in_hands (arrived_at q n) vs ≡ in_hands (arrived_at q n) s.desks)
      → ((j : ℕ) (x : Slot) → get_elem? t.results j ≡ some x → (y : Slot) × (get_elem? s.results j ≡ some y) × (was_put x ≡ was_put y)) → R t
  results_same s t vs f tickets desks same slots = record {
    below = λ q n. let a = f.below q n in let b = same q n in let h = ap (in_hands (arrived_at q n)) desks in let c = ap (λ ws. one_if (ltb n (get_or ws q 0))) tickets in let h' : in_hands (arrived_at q n) t.desks ≡ in_hands (arrived_at q n) vs = h in let c' : one_if (ltb n (get_or t.tickets q 0)) ≡ one_if (ltb n (get_or s.tickets q 0)) = c in omega arith;
    once = λ q n x l e. let y = slots (place_of p q n) x e in let a = f.once q n y.0 l y.1 in let w = y.2 in let b = same q n in let h' : in_hands (arrived_at q n) t.desks ≡ in_hands (arrived_at q n) vs = ap (in_hands (arrived_at q n)) desks in let c' : one_if (ltb n (get_or t.tickets q 0)) ≡ one_if (ltb n (get_or s.tickets q 0)) = ap (λ ws. one_if (ltb n (get_or ws q 0))) tickets in omega arith;
  }

  -- one ticket more: the number of this one rises
  pub ticket_step : (ts : List ℕ) (q r n : ℕ) → q < length ts → let t = get_or ts q 0 in one_if (ltb n (get_or (set ts q (t + 1)) r 0)) ≡ one_if (ltb n (get_or ts r 0)) + one_if (eqb q r && eqb t n)
  ticket_step ts q r n h = let t : ℕ = get_or ts q 0 in dite (ℕ_discrete q r)
      (λ same. let new : get_or (set ts q (t + 1)) r 0 ≡ t + 1 = subst (λ z. get_or (set ts q (t + 1)) z 0 ≡ t + 1) same (get_or-set_same ts q (t + 1) 0 h) in let old : get_or ts r 0 ≡ t = ap (λ z. get_or ts z 0) (sym same) in
      let a : one_if (ltb n (get_or (set ts q (t + 1)) r 0)) ≡ one_if (ltb n (t + 1)) = ap (λ z. one_if (ltb n z)) new in let b : one_if (ltb n (get_or ts r 0)) ≡ one_if (ltb n t) = ap (λ z. one_if (ltb n z)) old in
      dite (ℕ_discrete t n) (λ is. let c = both_one q t r n same is in let d = lt_one n (t + 1) (omega arith) in let e = lt_none n t (omega arith) in omega arith)
      (λ not_is. let c = both_none q t r n (λ y. not_is y.1) in dite (dec_lt n t) (λ y. let d = lt_one n (t + 1) (omega arith) in let e = lt_one n t y in omega arith) (λ y. let d = lt_none n (t + 1) (omega arith) in let e = lt_none n t (omega arith) in omega arith)))
      (λ other. let a : one_if (ltb n (get_or (set ts q (t + 1)) r 0)) ≡ one_if (ltb n (get_or ts r 0)) = ap (λ z. one_if (ltb n z)) (get_or-set_other ts q r (t + 1) 0 (λ y. other (sym y))) in let c = both_none q t r n (λ y. other y.0) in omega arith)

  -- a ticket is drawn
  arrives : (s : ArrivalState) (i k : ℕ) (v : View) (x : Item) → HasShape p s → WordsFit p s → R s → get_elem? s.desks i ≡ some v → find_item (is_loaded k) v.hand ≡ some x → let q = search_of p k in let t = get_or s.tickets q 0 in
      R (record s { tickets = set s.tickets q (t + 1); desks = set s.desks i (after_arrive v k x q t) })
  arrives s i k v x shape words f e g = let q : ℕ = search_of p k in let t : ℕ = get_or s.tickets q 0 in let w : View = after_arrive v k x q t in let vs : List View = set s.desks i w in
      let fits : q < length s.tickets = subst (λ z. q < z) (sym shape.tickets) (arrived p good s i k v x shape words e g).0 in
      let more : (r n : ℕ) → in_hands (arrived_at r n) vs ≡ in_hands (arrived_at r n) s.desks + one_if (eqb q r && eqb t n) = λ r n. let a = loaded_gives (arrived_at r n) s.desks i v w e k (arrived_items k x q t) x g refl in let b = a.2 in omega arith in
      record {
        below = λ r n. let a = more r n in let b = ticket_step s.tickets q r n fits in let c = f.below r n in omega arith;
        once = λ r n y l h. let a = more r n in let b = ticket_step s.tickets q r n fits in let c = f.once r n y l h in omega arith;
      }

  -- of a ticket in a desk's hand: it is in range, and its result is not put
  module _ (s : ArrivalState) (i q t : ℕ) (v : View) (x : Item) (shape : HasShape p s) (words : WordsFit p s) (f : R s) (e : get_elem? s.desks i ≡ some v) (g : find_item (is_arrived q t) v.hand ≡ some x) where
    -- a ticket goes from the hand where its result is put
    gone : (r n : ℕ) → in_hands (arrived_at r n) (set s.desks i (after_put v q t)) + one_if (eqb q r && eqb t n) ≡ in_hands (arrived_at r n) s.desks
    gone r n = let a = arrived_gives (arrived_at r n) s.desks i v (after_put v q t) e q t (Put (record { search = q; ticket = t }) ∷ []) x g refl in let z = a.0 in let b = a.4 in
        let c : one_if (eqb z.search r && eqb z.ticket n) ≡ one_if (eqb q r && eqb t n) = λ j. one_if (eqb (a.2 j) r && eqb (a.3 j) n) in omega arith

    -- it is a ticket of its search
    pub in_range : t < tasks_of p q
    in_range = let a = gone q t in let b = both_one q t q t refl refl in let c = f.below q t in let d = words.word q in let m = drawn_le p good q s.claimed in dite (dec_lt t (get_or s.tickets q 0)) (λ y. omega arith) (λ y. let z = lt_none t (get_or s.tickets q 0) (omega arith) in absurd (omega arith))

    -- its slot is there, and nothing was put into it
    pub slot_there : (y : Slot) × (get_elem? s.results (place_of p q t) ≡ some y) × (was_put y ≡ 0)
    slot_there = let y = has_slot s.results (place_of p q t) (subst (λ z. place_of p q t < z) (sym shape.results) (place_within p q t in_range)) in let a = gone q t in let b = both_one q t q t refl refl in let c = f.once q t y.0 in_range y.1 in let d = one_if_le (ltb t (get_or s.tickets q 0)) in (y.0, y.1, omega arith)

    -- the desk comes to the slot
    opens : R (record s { results = set s.results (place_of p q t) reached; desks = set s.desks i (after_reach_result v q t x) })
    opens = results_same s _ (set s.desks i (after_reach_result v q t x)) f refl refl (λ r n. let a = hands_exchanged (arrived_at r n) s.desks i v (after_reach_result v q t x) (is_arrived q t) (reached_item x ∷ []) x e g refl in let b = quiet_reached (arrived_at r n) (arrived_quiet r n) x in omega arith)
        (alike_set was_put s.results (place_of p q t) slot_there.0 reached slot_there.1 (sym slot_there.2))

    -- and puts the result
    puts : (l : Label) → R (record s { results = set s.results (place_of p q t) (holds l); desks = set s.desks i (after_put v q t) })
    puts l = record {
      below = λ r n. let a = gone r n in let b = f.below r n in omega arith;
      once = λ r n y less h. let a = gone r n in ⊎_elim
          (λ (u : (place_of p r n ≡ place_of p q t) × (holds l ≡ y)). let same = places_apart p q t r n in_range less (sym u.0) in let b = both_one q t r n same.0 same.1 in
          let c = f.once r n slot_there.0 less (ap (get_elem? s.results) u.0 ∙ slot_there.1) in let d = slot_there.2 in let w : was_put y ≡ 1 = ap was_put (sym u.1) in omega arith)
          (λ (u : (place_of p r n ≢ place_of p q t) × (get_elem? s.results (place_of p r n) ≡ some y)). let b = both_none q t r n (λ z. u.0 (λ j. place_of p (sym z.0 j) (sym z.1 j))) in let c = f.once r n y less u.1 in omega arith)
          (at_set s.results (place_of p q t) (place_of p r n) (holds l) y h);
    }

  -- every move keeps it
  pub results_move : (s : ArrivalState) (m : Move) → HasShape p s → WordsFit p s → R s → R (move p s m)
  results_move s (claim i) h ws f = desk_keeps R s i _ _ f (λ v e _. results_same s _ (set s.desks i (after_claim p v s.claimed)) f refl refl (λ q n. let w : View = after_claim p v s.claimed in
      by_test (λ (hand : List Item). w.hand ≡ hand → in_hands (arrived_at q n) (set s.desks i w) ≡ in_hands (arrived_at q n) s.desks) (ltb s.claimed (task_count p)) _ _
      (λ _ g. let a = hands_more (arrived_at q n) s.desks i v w (Claimed s.claimed) e g in omega arith) (λ _ g. hands_same (arrived_at q n) s.desks i v w e g) refl) (alike_here was_put s.results))
  results_move s (take_task i k) h ws f = item_keeps R s i _ _ _ f (λ v e x g _. results_same s _ (set s.desks i (after_take_task v k)) f refl refl (λ q n. let a = claimed_gives (arrived_at q n) s.desks i v (after_take_task v k) e k (Loaded (record { task = k; failed = false }) ∷ []) x g refl in omega arith) (alike_here was_put s.results))
  results_move s (arrive i k) h ws f = item_keeps R s i _ _ _ f (λ v e x g _. arrives s i k v x h ws f e g)
  results_move s (put i q t l) h ws f = item_keeps R s i _ _ _ f (λ v e x g _. by_test R (is_at_slot x) _ _ (λ _. puts s i q t v x h ws f e g l) (λ _. opens s i q t v x h ws f e g))
  results_move s (count i q t) h ws f = item_keeps R s i _ _ _ f (λ v e x g _. let n : ℕ = get_or s.counts (place_of p q (t / p.batch)) 0 + 1 in results_same s _ (set s.desks i (after_count p v q t n)) f refl refl
      (λ r u. let a = put_gives (arrived_at r u) s.desks i v (after_count p v q t n) e q t (batch_due p q (t / p.batch) n) x g refl in let b = batch_due_none (arrived_at r u) p q (t / p.batch) n (arrived_quiet r u) in omega arith) (alike_here was_put s.results))
  results_move s (take_result i q t) h ws f = item_keeps R s i _ _ _ f (λ v e x g m. by_label R s _ _ f (λ l o. results_same s _ (set s.desks i (after_take_result p v q t x l)) f refl refl
      (λ r n. let a = batch_gives (arrived_at r n) s.desks i v (after_take_result p v q t x l) e q (t / p.batch) (taken_from x t l ∷ []) x g refl in let c = taken_none (arrived_at r n) x a.0 t l (arrived_quiet r n) a.1 in let d = a.4 in omega arith)
      (alike_set was_put s.results (place_of p q t) (holds l) emptied o refl)))
  results_move s (put_merged i q b l) h ws f = item_keeps R s i _ _ _ f (λ v e x g m. by_test R (is_at_slot x) _ _
      (λ _. results_same s _ (set s.desks i (after_put_merged v q b)) f refl refl (λ r n. let a = batch_gives (arrived_at r n) s.desks i v (after_put_merged v q b) e q b [] x g refl in let d = a.4 in omega arith) (alike_here was_put s.results))
      (λ _. results_same s _ (set s.desks i (after_reach_batch v q b x)) f refl refl (λ r n. let a = hands_exchanged (arrived_at r n) s.desks i v (after_reach_batch v q b x) (is_batch q b) (reached_item x ∷ []) x e g refl in let c = quiet_reached (arrived_at r n) (arrived_quiet r n) x in omega arith) (alike_here was_put s.results)))
  results_move s (split i k) h ws f = desk_keeps R s i _ _ f (λ v e m. results_same s _ (set s.desks i (after_split v k) ++ split_off k ∷ []) f refl refl (λ r n. hands_split (arrived_at r n) s.desks i k v e) (alike_here was_put s.results))
  results_move s (join i j) h ws f = desk_keeps R s i _ _ f (λ v e m. desk_keeps R s j _ _ f (λ w d z. results_same s _ (set (set s.desks i (after_join v w)) j spent_view) f refl refl (λ r n. hands_join (arrived_at r n) s.desks i j v w e d (apart_from i j m) (bare w.hand z)) (alike_here was_put s.results)))
  results_move s (close i q b) h ws f = desk_keeps R s i _ _ f (λ v e m. by_label R s _ _ f (λ l o. results_same s _ (set s.desks i (after_close v q b l)) f refl refl (λ r n. let a = hands_more (arrived_at r n) s.desks i v (after_close v q b l) (Closed (record { search = q; batch = b; taken = l })) e refl in omega arith) (alike_here was_put s.results)))
  results_move s (stop i k) h ws f = item_keeps R s i _ _ _ f (λ v e x g _. results_same s _ (set s.desks i (after_stop v k)) f refl refl (λ r n. let a = loaded_gives (arrived_at r n) s.desks i v (after_stop v k) e k (Loaded (record { task = k; failed = true }) ∷ []) x g refl in let b = a.2 in omega arith) (alike_here was_put s.results))
  results_move s (stopped i q) h ws f = desk_keeps R s i _ _ f (λ v e m. let w : View = after_stopped v q (get_or s.stops q 0) in results_same s _ (set s.desks i w) f refl refl (λ r n. hands_same (arrived_at r n) s.desks i v w e refl) (alike_here was_put s.results))

  -- at the opening no ticket is drawn
  pub results_opened : R (opened p)
  results_opened = record {
    below = λ q t. omega arith;
    once = λ q t x l e. let a : was_put fresh ≡ was_put x = ap was_put (first_slot (task_count p) (place_of p q t) x e) in let z = zeros p good p.searches q in let b : one_if (ltb t (get_or (opened p).tickets q 0)) ≡ one_if (ltb t 0) = ap (λ n. one_if (ltb t n)) z in let c = lt_none t 0 (omega arith) in omega arith;
  }
