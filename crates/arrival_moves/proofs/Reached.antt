-- A result's slot is reached exactly where a desk is at it; so a ticket whose desk is not yet at its slot has a fresh slot.
use Rattle.std.proofs.Common.{◌≡◌, ◌≢◌, ℕ, ◌+◌, ◌/◌, ◌<◌, ◌≤◌, ⊎_elim, Bool, true, false, ◌&&◌, eqb, ltb, get_or, List, [], ◌∷◌, ◌++◌, set, sym, refl, ap, ◌∙◌, arith}
use Rattle.std.specs.Prelude.{◌==◌, if◌then◌else◌}
use mathlib.Core.Option.{some}
use lib.ListN.{get_elem?}
use Rattle.std.specs.List.{sum_by}
use Rattle.list_laws.proofs.Places.{at_set}
use Rattle.arrival_moves.specs.AfterMove.{spent_view, reached_item, after_claim, after_take_task, after_arrive, after_put, after_reach_result, after_count, after_stop, after_take_result, taken_from, batch_due, after_put_merged, after_reach_batch, after_split, split_off, after_join, after_close, after_stopped}
use Rattle.arrival_moves.specs.Hands.{in_hand, in_hands, exchanged, find_item}
use Rattle.arrival_moves.specs.Items.{arrived_at, reached_at, is_arrived, is_at_slot}
use Rattle.arrival_moves.specs.Lists.{one_if}
use Rattle.arrival_moves.specs.Moves.{ArrivalState, Move, claim, take_task, arrive, put, count, take_result, put_merged, split, join, close, stop, stopped, move, opened}
use Rattle.arrival_moves.specs.Plans.{task_count, place_of, search_of, tasks_of, batch_size, IsPlan}
use Rattle.arrival_moves.specs.Slots.{Slot, fresh, reached, holds, emptied, was_put}
use Rattle.arrival_moves.specs.declared.item.ArrivedTask.{ArrivedTask}
use Rattle.arrival_moves.specs.declared.item.Item.{Item}
use Rattle.arrival_moves.specs.declared.item.Item.TheVariants.{Claimed, Loaded, Arrived, Put, Batch, Closed}
use Rattle.arrival_moves.specs.declared.label.Label.{Label}
use Rattle.arrival_moves.specs.declared.plan.Plan.{Plan}
use Rattle.arrival_moves.specs.declared.view.View.{View}
use Rattle.list_laws.proofs.PlaceSums.{sum_by_rest}
use Rattle.arrival_moves.proofs.Cases.{desk_keeps, item_keeps, by_label, hands_exchanged, exchanged_sum, found_is}
use Rattle.list_laws.proofs.PlaceTests.{by_test}
use Rattle.arrival_moves.proofs.Items.{hands_more, hands_same, claimed_gives, loaded_gives, put_gives, batch_gives, as_arrived}
use Rattle.arrival_moves.specs.Fairness.{HasShape}
use Rattle.arrival_moves.proofs.Quiet.{hands_split, hands_join, apart_from, bare}
use Rattle.arrival_moves.proofs.Loads.{arrived_items}
use Rattle.arrival_moves.proofs.Words.{WordsFit}
use Rattle.arrival_moves.proofs.TaskPlaces.{places_apart}
use Rattle.arrival_moves.proofs.Results.{ResultsFit, both_one, both_none, in_range, slot_there}
use Rattle.arrival_moves.proofs.OneIf.{one_if_le, one_if_never, one_if_always, one_if_fewer}
use Rattle.arrival_moves.proofs.SlotStates.{is_reached, none_but, put_or_reached, alike_here, alike_set, first_slot}
use Rattle.std.proofs.lemmas.List.Sums.{sum_by-le-sum_by}

pub record ReachedFit (p : Plan) (s : ArrivalState) : Type 0 where
  pub at : (q t : ℕ) (x : Slot) → t < tasks_of p q → get_elem? s.results (place_of p q t) ≡ some x → in_hands (reached_at q t) s.desks ≡ is_reached x

-- of an item in hand: what f leaves of a greater g there, it leaves in all hands
rest_of : (f g : Item → ℕ) → ((x : Item) → f x ≤ g x) → (xs : List Item) (is : Item → Bool) (x : Item) → find_item is xs ≡ some x → sum_by f xs + g x ≤ sum_by g xs + f x
rest_of f g le xs is x e = let a = exchanged_sum f is [] xs x e in let b = exchanged_sum g is [] xs x e in let c = sum_by-le-sum_by f g (exchanged is [] xs) le in omega arith

-- and so in one desk's hand
pub hands_rest : (f g : Item → ℕ) → ((x : Item) → f x ≤ g x) → (vs : List View) (i : ℕ) (v : View) (is : Item → Bool) (x : Item) → get_elem? vs i ≡ some v → find_item is v.hand ≡ some x → in_hands f vs + g x ≤ in_hands g vs + f x
hands_rest f g le vs i v is x e h = let a = rest_of f g le v.hand is x h in let b = sum_by_rest (in_hand f) (in_hand g) vs (λ j u d. sum_by-le-sum_by f g u.hand le) i v e in omega arith

-- a ticket whose desk is at its slot is in hand
reached_le : (q t : ℕ) (x : Item) → reached_at q t x ≤ arrived_at q t x
reached_le q t (Claimed j) = omega arith
reached_le q t (Loaded z) = omega arith
reached_le q t (Arrived z) = one_if_fewer (eqb z.search q) (eqb z.ticket t) z.at_slot
reached_le q t (Put z) = omega arith
reached_le q t (Batch z) = omega arith
reached_le q t (Closed z) = omega arith

module _ (p : Plan) (good : IsPlan p) where
  abbrev F : ArrivalState → Type 0
  F = ReachedFit p

  -- it holds where no desk comes to a slot or leaves one
  reached_same : (s t : ArrivalState) (vs : List View) → F s → t.desks ≡ vs → ((q n : ℕ) → in_hands (reached_at q n) vs ≡ in_hands (reached_at q n) s.desks)
      → ((j : ℕ) (x : Slot) → get_elem? t.results j ≡ some x → (y : Slot) × (get_elem? s.results j ≡ some y) × (is_reached x ≡ is_reached y)) → F t
  reached_same s t vs f desks same slots = record { at = λ q n x l e. let y = slots (place_of p q n) x e in let a = f.at q n y.0 l y.1 in let w = y.2 in let b = same q n in let h : in_hands (reached_at q n) t.desks ≡ in_hands (reached_at q n) vs = ap (in_hands (reached_at q n)) desks in omega arith }

  module _ (s : ArrivalState) (i q t : ℕ) (v : View) (x : Item) (shape : HasShape p s) (words : WordsFit p s) (r : ResultsFit p s) (f : F s) (e : get_elem? s.desks i ≡ some v) (g : find_item (is_arrived q t) v.hand ≡ some x) where
    -- the ticket's slot, into which nothing was put
    there : (y : Slot) × (get_elem? s.results (place_of p q t) ≡ some y) × (was_put y ≡ 0)
    there = slot_there p good s i q t v x shape words r e g

    -- the ticket is one of its search
    range : t < tasks_of p q
    range = in_range p good s i q t v x shape words r e g

    -- the item's own number
    own : (a b : ℕ) → (z : ArrivedTask) × (x ≡ Arrived z) × (reached_at a b x ≡ one_if (eqb q a && eqb t b && z.at_slot)) × (arrived_at q t x ≡ 1)
    own a b = let z = as_arrived q t x (found_is (is_arrived q t) v.hand x g) in
        let c : reached_at a b x ≡ one_if (eqb z.0.search a && eqb z.0.ticket b && z.0.at_slot) = ap (reached_at a b) z.1 in let d : one_if (eqb z.0.search a && eqb z.0.ticket b && z.0.at_slot) ≡ one_if (eqb q a && eqb t b && z.0.at_slot) = λ j. one_if (eqb (z.2 j) a && eqb (z.3 j) b && z.0.at_slot) in
        let k : arrived_at q t x ≡ arrived_at q t (Arrived z.0) = ap (arrived_at q t) z.1 in (z.0, z.1, c ∙ d, k ∙ both_one z.0.search z.0.ticket q t z.2 z.3)

    -- where the desk is not yet at it, it is fresh
    pub fresh_there : is_at_slot x ≡ false → get_elem? s.results (place_of p q t) ≡ some fresh
    fresh_there shut = let o = own q t in let z = o.0 in let c : z.at_slot ≡ false = sym (ap is_at_slot o.1) ∙ shut in let d : reached_at q t x ≡ 0 = o.2 ∙ (ap (λ b. one_if (eqb q q && eqb t t && b)) c ∙ one_if_never (eqb q q && eqb t t)) in
        let h = hands_rest (reached_at q t) (arrived_at q t) (reached_le q t) s.desks i v (is_arrived q t) x e g in let a = r.below q t in let k = o.3 in let m = one_if_le (ltb t (get_or s.tickets q 0)) in let n = f.at q t there.0 range there.1 in
        there.1 ∙ ap some (none_but there.0 there.2 (omega arith))

    -- the desk comes to the slot
    opens : is_at_slot x ≡ false → F (record s { results = set s.results (place_of p q t) reached; desks = set s.desks i (after_reach_result v q t x) })
    unfolding own
    opens shut = let w : View = after_reach_result v q t x in let old = fresh_there shut in
        let more : (a b : ℕ) → in_hands (reached_at a b) (set s.desks i w) ≡ in_hands (reached_at a b) s.desks + one_if (eqb q a && eqb t b) = λ a b. let o = own a b in let z = o.0 in let c : z.at_slot ≡ false = sym (ap is_at_slot o.1) ∙ shut in
        let d : reached_at a b x ≡ 0 = o.2 ∙ (ap (λ y. one_if (eqb q a && eqb t b && y)) c ∙ one_if_never (eqb q a && eqb t b)) in let h = hands_exchanged (reached_at a b) s.desks i v w (is_arrived q t) (reached_item x ∷ []) x e g refl in
        let n : reached_at a b (reached_item x) ≡ one_if (eqb q a && eqb t b && true) = ap (λ y. reached_at a b (reached_item y)) o.1 ∙ (let k = as_arrived q t x (found_is (is_arrived q t) v.hand x g) in λ j. one_if (eqb (k.2 j) a && eqb (k.3 j) b && true)) in
        let m = one_if_always (eqb q a && eqb t b) in omega arith in
        record {
          at = λ a b y l h. ⊎_elim
              (λ (u : (place_of p a b ≡ place_of p q t) × (reached ≡ y)). let same = places_apart p q t a b range l (sym u.0) in let c = both_one q t a b same.0 same.1 in let d = f.at a b fresh l (ap (get_elem? s.results) u.0 ∙ old) in let k : is_reached y ≡ 1 = ap is_reached (sym u.1) in let n = more a b in omega arith)
              (λ (u : (place_of p a b ≢ place_of p q t) × (get_elem? s.results (place_of p a b) ≡ some y)). let c = both_none q t a b (λ z. u.0 (λ j. place_of p (sym z.0 j) (sym z.1 j))) in let d = f.at a b y l u.1 in let n = more a b in omega arith)
              (at_set s.results (place_of p q t) (place_of p a b) reached y h);
        }

    -- and puts the result
    puts : (l : Label) → is_at_slot x ≡ true → F (record s { results = set s.results (place_of p q t) (holds l); desks = set s.desks i (after_put v q t) })
    puts lab open_now = let w : View = after_put v q t in
        let gone : (a b : ℕ) → in_hands (reached_at a b) (set s.desks i w) + one_if (eqb q a && eqb t b) ≡ in_hands (reached_at a b) s.desks = λ a b. let o = own a b in let z = o.0 in let c : z.at_slot ≡ true = sym (ap is_at_slot o.1) ∙ open_now in
        let d : reached_at a b x ≡ one_if (eqb q a && eqb t b && true) = o.2 ∙ ap (λ y. one_if (eqb q a && eqb t b && y)) c in let m = one_if_always (eqb q a && eqb t b) in
        let h = hands_exchanged (reached_at a b) s.desks i v w (is_arrived q t) (Put (record { search = q; ticket = t }) ∷ []) x e g refl in omega arith in
        record {
          at = λ a b y l h. ⊎_elim
              (λ (u : (place_of p a b ≡ place_of p q t) × (holds lab ≡ y)). let same = places_apart p q t a b range l (sym u.0) in let c = both_one q t a b same.0 same.1 in let d = f.at a b there.0 l (ap (get_elem? s.results) u.0 ∙ there.1) in let k : is_reached y ≡ 0 = ap is_reached (sym u.1) in let n = gone a b in let m = put_or_reached there.0 in omega arith)
              (λ (u : (place_of p a b ≢ place_of p q t) × (get_elem? s.results (place_of p a b) ≡ some y)). let c = both_none q t a b (λ z. u.0 (λ j. place_of p (sym z.0 j) (sym z.1 j))) in let d = f.at a b y l u.1 in let n = gone a b in omega arith)
              (at_set s.results (place_of p q t) (place_of p a b) (holds lab) y h);
        }

  -- a batch is at no result's slot
  due_none : (a b q c n : ℕ) → sum_by (reached_at a b) (batch_due p q c n) ≡ 0
  due_none a b q c n = one_or_none (n == batch_size p q c) _ refl
    where
      one_or_none : (yes : Bool) (y : Item) → reached_at a b y ≡ 0 → sum_by (reached_at a b) (if yes then y ∷ [] else []) ≡ 0
      one_or_none true y e = omega arith
      one_or_none false y e = refl

  -- every move keeps it
  pub reached_move : (s : ArrivalState) (m : Move) → HasShape p s → WordsFit p s → ResultsFit p s → F s → F (move p s m)
  reached_move s (claim i) h ws r f = desk_keeps F s i _ _ f (λ v e _. reached_same s _ (set s.desks i (after_claim p v s.claimed)) f refl (λ q n. let w : View = after_claim p v s.claimed in
      by_test (λ (hand : List Item). w.hand ≡ hand → in_hands (reached_at q n) (set s.desks i w) ≡ in_hands (reached_at q n) s.desks) (ltb s.claimed (task_count p)) _ _
      (λ _ g. let a = hands_more (reached_at q n) s.desks i v w (Claimed s.claimed) e g in omega arith) (λ _ g. hands_same (reached_at q n) s.desks i v w e g) refl) (alike_here is_reached s.results))
  reached_move s (take_task i k) h ws r f = item_keeps F s i _ _ _ f (λ v e x g _. reached_same s _ (set s.desks i (after_take_task v k)) f refl (λ q n. let a = claimed_gives (reached_at q n) s.desks i v (after_take_task v k) e k (Loaded (record { task = k; failed = false }) ∷ []) x g refl in omega arith) (alike_here is_reached s.results))
  reached_move s (arrive i k) h ws r f = item_keeps F s i _ _ _ f (λ v e x g _. let q : ℕ = search_of p k in let t : ℕ = get_or s.tickets q 0 in reached_same s _ (set s.desks i (after_arrive v k x q t)) f refl
      (λ a b. let d = loaded_gives (reached_at a b) s.desks i v (after_arrive v k x q t) e k (arrived_items k x q t) x g refl in let c = d.2 in let n = one_if_never (eqb q a && eqb t b) in omega arith) (alike_here is_reached s.results))
  reached_move s (put i q t l) h ws r f = item_keeps F s i _ _ _ f (λ v e x g _. by_test F (is_at_slot x) _ _ (λ y. puts s i q t v x h ws r f e g l y) (λ y. opens s i q t v x h ws r f e g y))
  reached_move s (count i q t) h ws r f = item_keeps F s i _ _ _ f (λ v e x g _. let n : ℕ = get_or s.counts (place_of p q (t / p.batch)) 0 + 1 in reached_same s _ (set s.desks i (after_count p v q t n)) f refl
      (λ a u. let d = put_gives (reached_at a u) s.desks i v (after_count p v q t n) e q t (batch_due p q (t / p.batch) n) x g refl in let b = due_none a u q (t / p.batch) n in omega arith) (alike_here is_reached s.results))
  reached_move s (take_result i q t) h ws r f = item_keeps F s i _ _ _ f (λ v e x g m. by_label F s _ _ f (λ l o. reached_same s _ (set s.desks i (after_take_result p v q t x l)) f refl
      (λ a n. let d = batch_gives (reached_at a n) s.desks i v (after_take_result p v q t x l) e q (t / p.batch) (taken_from x t l ∷ []) x g refl in let c : reached_at a n (taken_from x t l) ≡ 0 = ap (λ y. reached_at a n (taken_from y t l)) d.1 in let b = d.4 in omega arith)
      (alike_set is_reached s.results (place_of p q t) (holds l) emptied o refl)))
  reached_move s (put_merged i q b l) h ws r f = item_keeps F s i _ _ _ f (λ v e x g m. by_test F (is_at_slot x) _ _
      (λ _. reached_same s _ (set s.desks i (after_put_merged v q b)) f refl (λ a n. let c = batch_gives (reached_at a n) s.desks i v (after_put_merged v q b) e q b [] x g refl in let d = c.4 in omega arith) (alike_here is_reached s.results))
      (λ _. reached_same s _ (set s.desks i (after_reach_batch v q b x)) f refl (λ a n. let c = batch_gives (reached_at a n) s.desks i v (after_reach_batch v q b x) e q b (reached_item x ∷ []) x g refl in let d : reached_at a n (reached_item x) ≡ 0 = ap (λ y. reached_at a n (reached_item y)) c.1 in let k = c.4 in omega arith) (alike_here is_reached s.results)))
  reached_move s (split i k) h ws r f = desk_keeps F s i _ _ f (λ v e m. reached_same s _ (set s.desks i (after_split v k) ++ split_off k ∷ []) f refl (λ a n. hands_split (reached_at a n) s.desks i k v e) (alike_here is_reached s.results))
  reached_move s (join i j) h ws r f = desk_keeps F s i _ _ f (λ v e m. desk_keeps F s j _ _ f (λ w d z. reached_same s _ (set (set s.desks i (after_join v w)) j spent_view) f refl (λ a n. hands_join (reached_at a n) s.desks i j v w e d (apart_from i j m) (bare w.hand z)) (alike_here is_reached s.results)))
  reached_move s (close i q b) h ws r f = desk_keeps F s i _ _ f (λ v e m. by_label F s _ _ f (λ l o. reached_same s _ (set s.desks i (after_close v q b l)) f refl (λ a n. let c = hands_more (reached_at a n) s.desks i v (after_close v q b l) (Closed (record { search = q; batch = b; taken = l })) e refl in omega arith) (alike_here is_reached s.results)))
  reached_move s (stop i k) h ws r f = item_keeps F s i _ _ _ f (λ v e x g _. reached_same s _ (set s.desks i (after_stop v k)) f refl (λ a n. let d = loaded_gives (reached_at a n) s.desks i v (after_stop v k) e k (Loaded (record { task = k; failed = true }) ∷ []) x g refl in let b = d.2 in omega arith) (alike_here is_reached s.results))
  reached_move s (stopped i q) h ws r f = desk_keeps F s i _ _ f (λ v e m. let w : View = after_stopped v q (get_or s.stops q 0) in reached_same s _ (set s.desks i w) f refl (λ a n. hands_same (reached_at a n) s.desks i v w e refl) (alike_here is_reached s.results))

  -- at the opening no desk is at a slot
  pub reached_opened : F (opened p)
  reached_opened = record { at = λ q t x l e. let a : is_reached fresh ≡ is_reached x = ap is_reached (first_slot (task_count p) (place_of p q t) x e) in omega arith }
