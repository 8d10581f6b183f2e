-- What each move does to a number of all labels, in the hands and in the slots.
use Rattle.std.proofs.Common.{◌≡◌, ℕ, ◌+◌, ◌*◌, ◌/◌, ◌<◌, ◌≤◌, Bool, true, false, get_or, List, [], ◌∷◌, set, refl, ap, arith}
use Rattle.std.specs.Prelude.{◌==◌}
use Rattle.std.specs.List.{sum_by}
use Rattle.std.proofs.lemmas.Bool.{cond_both, cond-true, cond-false, lt-ltb, le-ltb}
use Rattle.std.proofs.lemmas.List.Sums.{sum_by-cons}
use mathlib.Core.Option.{some}
use lib.ListN.{get_elem?}
use Rattle.arrival_moves.specs.declared.label.Label.{Label}
use Rattle.arrival_moves.specs.declared.plan.Plan.{Plan}
use Rattle.arrival_moves.specs.declared.view.View.{View}
use Rattle.arrival_moves.specs.declared.item.Item.{Item}
use Rattle.arrival_moves.specs.declared.item.Item.TheVariants.{Claimed, Loaded, Arrived, Put, Batch, Closed}
use Rattle.arrival_moves.specs.declared.item.ArrivedTask.{ArrivedTask}
use Rattle.arrival_moves.specs.declared.item.HeldBatch.{HeldBatch}
use Rattle.arrival_moves.specs.Lists.{numbers_from}
use Rattle.arrival_moves.specs.Labels.{no_label, task_label, joined_label}
use Rattle.arrival_moves.specs.Slots.{Slot, reached, holds, emptied, in_slot, was_put}
use Rattle.arrival_moves.specs.Plans.{task_count, search_of, place_of, batch_size}
use Rattle.arrival_moves.specs.Items.{is_loaded, is_arrived, is_batch, is_marked, in_item}
use Rattle.arrival_moves.specs.Hands.{find_item}
use Rattle.arrival_moves.specs.AfterMove.{after_claim, after_take_task, after_arrive, after_reach_result, after_put, after_count, after_take_result, after_reach_batch, after_put_merged, after_close, after_stop, after_stopped, reached_item, batch_due, taken_from}
use Rattle.arrival_moves.specs.Moves.{ArrivalState, take_task, arrive, count, split, join, close, stopped, move}
use Rattle.arrival_moves.specs.Fairness.{everywhere}
use Rattle.list_laws.proofs.PlaceSums.{sum_by_set}
use Rattle.arrival_moves.proofs.Cases.{desk_keeps, item_keeps, by_label, hands_exchanged}
use Rattle.arrival_moves.proofs.Items.{hands_more, hands_same, claimed_gives, loaded_gives, put_gives}
use Rattle.arrival_moves.proofs.Quiet.{hands_split, hands_join, apart_from, bare}
use Rattle.arrival_moves.proofs.Loads.{arrived_items}
use Rattle.arrival_moves.proofs.SlotStates.{holds_none}

-- a task in hand, marked failed or not
abbrev pub marked_label : ℕ → Bool → Label
marked_label k b = record { tasks = k ∷ []; failed = b; skipped = false }

-- no number of all labels changes, no task is claimed and no search is stopped
pub record Unmoved (s t : ArrivalState) : Type 0 where
  pub claimed : t.claimed ≡ s.claimed
  pub stops : t.stops ≡ s.stops
  pub every : (f : Label → ℕ) → f no_label ≡ 0 → everywhere f t ≡ everywhere f s

-- an item at its slot stands for the same tasks
same_reached : (f : Label → ℕ) (x : Item) → in_item f (reached_item x) ≡ in_item f x
same_reached f (Claimed k) = refl
same_reached f (Loaded z) = refl
same_reached f (Arrived z) = refl
same_reached f (Put z) = refl
same_reached f (Batch z) = refl
same_reached f (Closed z) = refl

-- a last count brings a batch of which nothing is taken
due_nothing : (f : Label → ℕ) (p : Plan) (q b n : ℕ) → f no_label ≡ 0 → sum_by (in_item f) (batch_due p q b n) ≡ 0
due_nothing f p q b n h = let y : Item = Batch (record { search = q; batch = b; due = numbers_from (b * p.batch) n; taken = no_label; at_slot = false }) in
    cond_both (n == batch_size p q b) (y ∷ []) [] (λ (ys : List Item). sum_by (in_item f) ys ≡ 0) (λ _. let a = sum_by-cons (in_item f) y [] in omega arith) (λ _. refl)

module _ (p : Plan) (P : ArrivalState → Type 0) (s : ArrivalState) (f : P s) (k : (t : ArrivalState) → Unmoved s t → P t) where
  pub unmoved_take_task : (i n : ℕ) → P (move p s (take_task i n))
  unmoved_take_task i n = item_keeps P s i _ _ _ f (λ v e x g m. k _ (record { claimed = refl; stops = refl; every = λ h z. let a = claimed_gives (in_item h) s.desks i v (after_take_task v n) e n (Loaded (record { task = n; failed = false }) ∷ []) x g refl in omega arith }))

  pub unmoved_arrive : (i n : ℕ) → P (move p s (arrive i n))
  unmoved_arrive i n = item_keeps P s i _ _ _ f (λ v e x g m. let q : ℕ = search_of p n in let t : ℕ = get_or s.tickets q 0 in k _ (record {
    claimed = refl;
    stops = refl;
    every = λ h z. let a = loaded_gives (in_item h) s.desks i v (after_arrive v n x q t) e n (arrived_items n x q t) x g refl in let b = a.2 in let c : h (marked_label n (is_marked x)) ≡ h (marked_label n a.0) = ap (λ y. h (marked_label n (is_marked y))) a.1 in omega arith;
  }))

  pub unmoved_reach_result : (i q t : ℕ) (v : View) (x : Item) (y : Slot) → get_elem? s.desks i ≡ some v → find_item (is_arrived q t) v.hand ≡ some x → get_elem? s.results (place_of p q t) ≡ some y → was_put y ≡ 0
      → P (record s { results = set s.results (place_of p q t) reached; desks = set s.desks i (after_reach_result v q t x) })
  unmoved_reach_result i q t v x y e g o none = k _ (record {
    claimed = refl;
    stops = refl;
    every = λ h z. let a = hands_exchanged (in_item h) s.desks i v (after_reach_result v q t x) (is_arrived q t) (reached_item x ∷ []) x e g refl in let b = same_reached h x in let c = sum_by_set (in_slot h) s.results (place_of p q t) y reached o in let d = holds_none h y none in omega arith;
  })

  pub unmoved_count : (i q t : ℕ) → P (move p s (count i q t))
  unmoved_count i q t = item_keeps P s i _ _ _ f (λ v e x g m. let b : ℕ = t / p.batch in let n : ℕ = get_or s.counts (place_of p q b) 0 + 1 in k _ (record {
    claimed = refl;
    stops = refl;
    every = λ h z. let a = put_gives (in_item h) s.desks i v (after_count p v q t n) e q t (batch_due p q b n) x g refl in let c = due_nothing h p q b n z in omega arith;
  }))

  pub unmoved_reach_batch : (i q b : ℕ) (v : View) (x : Item) (y : Slot) → get_elem? s.desks i ≡ some v → find_item (is_batch q b) v.hand ≡ some x → get_elem? s.batches (place_of p q b) ≡ some y → was_put y ≡ 0
      → P (record s { batches = set s.batches (place_of p q b) reached; desks = set s.desks i (after_reach_batch v q b x) })
  unmoved_reach_batch i q b v x y e g o none = k _ (record {
    claimed = refl;
    stops = refl;
    every = λ h z. let a = hands_exchanged (in_item h) s.desks i v (after_reach_batch v q b x) (is_batch q b) (reached_item x ∷ []) x e g refl in let c = same_reached h x in let d = sum_by_set (in_slot h) s.batches (place_of p q b) y reached o in let n = holds_none h y none in omega arith;
  })

  pub unmoved_split : (i n : ℕ) → P (move p s (split i n))
  unmoved_split i n = desk_keeps P s i _ _ f (λ v e m. k _ (record { claimed = refl; stops = refl; every = λ h z. let a = hands_split (in_item h) s.desks i n v e in omega arith }))

  pub unmoved_join : (i j : ℕ) → P (move p s (join i j))
  unmoved_join i j = desk_keeps P s i _ _ f (λ v e m. desk_keeps P s j _ _ f (λ w d y. k _ (record { claimed = refl; stops = refl; every = λ h z. let a = hands_join (in_item h) s.desks i j v w e d (apart_from i j m) (bare w.hand y) in omega arith })))

  pub unmoved_close : (i q b : ℕ) → P (move p s (close i q b))
  unmoved_close i q b = desk_keeps P s i _ _ f (λ v e m. by_label P s _ _ f (λ l o. k _ (record {
    claimed = refl;
    stops = refl;
    every = λ h z. let a = hands_more (in_item h) s.desks i v (after_close v q b l) (Closed (record { search = q; batch = b; taken = l })) e refl in let c = sum_by_set (in_slot h) s.batches (place_of p q b) (holds l) emptied o in omega arith;
  })))

  pub unmoved_stopped : (i q : ℕ) → P (move p s (stopped i q))
  unmoved_stopped i q = desk_keeps P s i _ _ f (λ v e m. k _ (record { claimed = refl; stops = refl; every = λ h z. let a = hands_same (in_item h) s.desks i v (after_stopped v q (get_or s.stops q 0)) e refl in omega arith }))

-- the moves that change labels
module _ (p : Plan) (s : ArrivalState) (h : Label → ℕ) (i : ℕ) (v : View) (e : get_elem? s.desks i ≡ some v) where
  -- a task is claimed
  pub every_claimed : s.claimed < task_count p → everywhere h (record s { claimed = s.claimed + 1; desks = set s.desks i (after_claim p v s.claimed) }) ≡ everywhere h s + h (task_label s.claimed)
  every_claimed low = let w : View = after_claim p v s.claimed in let a = hands_more (in_item h) s.desks i v w (Claimed s.claimed) e (cond-true _ _ _ (lt-ltb s.claimed (task_count p) low)) in omega arith

  -- a claim finds no task
  pub every_ended : task_count p ≤ s.claimed → everywhere h (record s { claimed = s.claimed + 1; desks = set s.desks i (after_claim p v s.claimed) }) ≡ everywhere h s
  every_ended high = let w : View = after_claim p v s.claimed in let a = hands_same (in_item h) s.desks i v w e (cond-false _ _ _ (le-ltb s.claimed (task_count p) high)) in omega arith

  -- a result is put in the place of its task
  pub every_put : (q t : ℕ) (x : Item) (y : Slot) (z : ArrivedTask) (l : Label) → h no_label ≡ 0 → find_item (is_arrived q t) v.hand ≡ some x → x ≡ Arrived z → get_elem? s.results (place_of p q t) ≡ some y → was_put y ≡ 0
      → everywhere h (record s { results = set s.results (place_of p q t) (holds l); desks = set s.desks i (after_put v q t) }) + h (marked_label z.task z.failed) ≡ everywhere h s + h l
  every_put q t x y z l zero g is o none = let a = hands_exchanged (in_item h) s.desks i v (after_put v q t) (is_arrived q t) (Put (record { search = q; ticket = t }) ∷ []) x e g refl in let b : in_item h x ≡ h (marked_label z.task z.failed) = ap (in_item h) is in
      let c = sum_by_set (in_slot h) s.results (place_of p q t) y (holds l) o in let d = holds_none h y none in omega arith

  -- a result's label joins those that were taken
  pub every_taken : (q t : ℕ) (x : Item) (z : HeldBatch) (l : Label) → find_item (is_batch q (t / p.batch)) v.hand ≡ some x → x ≡ Batch z → get_elem? s.results (place_of p q t) ≡ some (holds l)
      → everywhere h (record s { results = set s.results (place_of p q t) emptied; desks = set s.desks i (after_take_result p v q t x l) }) + (h z.taken + h l) ≡ everywhere h s + h (joined_label z.taken l)
  every_taken q t x z l g is o = let a = hands_exchanged (in_item h) s.desks i v (after_take_result p v q t x l) (is_batch q (t / p.batch)) (taken_from x t l ∷ []) x e g refl in let b : in_item h x ≡ h z.taken = ap (in_item h) is in
      let d : in_item h (taken_from x t l) ≡ h (joined_label z.taken l) = ap (λ y. in_item h (taken_from y t l)) is in let c = sum_by_set (in_slot h) s.results (place_of p q t) (holds l) emptied o in omega arith

  -- a merged result is put in the place of its batch
  pub every_merged : (q b : ℕ) (x : Item) (y : Slot) (z : HeldBatch) (l : Label) → find_item (is_batch q b) v.hand ≡ some x → x ≡ Batch z → get_elem? s.batches (place_of p q b) ≡ some y → was_put y ≡ 0
      → everywhere h (record s { batches = set s.batches (place_of p q b) (holds l); desks = set s.desks i (after_put_merged v q b) }) + h z.taken ≡ everywhere h s + h l
  every_merged q b x y z l g is o none = let a = hands_exchanged (in_item h) s.desks i v (after_put_merged v q b) (is_batch q b) [] x e g refl in let c : in_item h x ≡ h z.taken = ap (in_item h) is in
      let d = sum_by_set (in_slot h) s.batches (place_of p q b) y (holds l) o in let n = holds_none h y none in omega arith

  -- a task is marked failed
  pub every_stop : (n : ℕ) (x : Item) (ws : List ℕ) → find_item (is_loaded n) v.hand ≡ some x
      → (b : Bool) × (x ≡ Loaded (record { task = n; failed = b })) × (everywhere h (record s { stops = ws; desks = set s.desks i (after_stop v n) }) + h (marked_label n b) ≡ everywhere h s + h (marked_label n true))
  every_stop n x ws g = let a = loaded_gives (in_item h) s.desks i v (after_stop v n) e n (Loaded (record { task = n; failed = true }) ∷ []) x g refl in let c = a.2 in (a.0, a.1, omega arith)
