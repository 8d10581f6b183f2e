-- Each claimed task is at one place, and no label of a result is empty.
use Rattle.std.proofs.Common.{◌≡◌, ℕ, zero, suc, ◌+◌, ◌/◌, ◌<◌, ◌≤◌, true, ◌&&◌, eqb, ltb, replicate, [], ◌∷◌, length, set, sym, refl, ap, ◌∙◌, subst, arith}
use Rattle.std.proofs.lemmas.Bool.{and_from, lt-ltb, le-ltb}
use Rattle.std.proofs.lemmas.List.Sums.{sum_by-cons}
use mathlib.Core.Option.{some, some-injective, some-ne-none}
use mathlib.Core.Logic.{dite}
use native.Mathlib.Decide.{ℕ_discrete, dec_lt}
use lib.ListN.{get_elem?}
use Rattle.arrival_moves.specs.declared.label.Label.{Label}
use Rattle.arrival_moves.specs.declared.plan.Plan.{Plan}
use Rattle.arrival_moves.specs.declared.view.View.{View}
use Rattle.arrival_moves.specs.Lists.{one_if, times}
use Rattle.arrival_moves.specs.Labels.{task_times}
use Rattle.arrival_moves.specs.Slots.{Slot, fresh, reached, holds, emptied, in_slot, in_slots}
use Rattle.arrival_moves.specs.Plans.{task_count, search_of, place_of, IsPlan}
use Rattle.arrival_moves.specs.Items.{is_at_slot}
use Rattle.arrival_moves.specs.AfterMove.{after_claim}
use Rattle.arrival_moves.specs.Guards.{may_put, may_put_merged}
use Rattle.arrival_moves.specs.Moves.{ArrivalState, Move, claim, take_task, arrive, put, count, take_result, put_merged, split, join, close, stop, stopped, move, opened}
use Rattle.arrival_moves.specs.Fairness.{everywhere}
use Rattle.list_laws.proofs.PlaceSums.{Each, each_set}
use Rattle.arrival_moves.proofs.NumberLists.{times_append, times_cons}
use Rattle.arrival_moves.proofs.BatchRanges.{batch_some}
use Rattle.arrival_moves.proofs.Cases.{desk_keeps, item_keeps, by_label}
use Rattle.list_laws.proofs.PlaceTests.{by_test}
use Rattle.arrival_moves.specs.Fairness.{HasShape}
use Rattle.arrival_moves.proofs.Quiet.{eq_one, eq_none}
use Rattle.arrival_moves.proofs.Words.{WordsFit}
use Rattle.arrival_moves.proofs.Results.{ResultsFit, slot_there}
use Rattle.arrival_moves.proofs.LabelsFit.{LabelsFit, arrived_found, batch_found, put_label, merged_label, none_due}
use Rattle.arrival_moves.proofs.Batches.{BatchesKept, batch_slot}
use Rattle.arrival_moves.proofs.Everywhere.{Unmoved, unmoved_take_task, unmoved_arrive, unmoved_reach_result, unmoved_count, unmoved_reach_batch, unmoved_split, unmoved_join, unmoved_close, unmoved_stopped, every_claimed, every_ended, every_put, every_taken, every_merged, every_stop}
use Rattle.arrival_moves.proofs.OneIf.{one_if_never}

-- a full slot stands for some task
abbrev pub Filled : Slot → Type 0
Filled (holds l) = 1 ≤ length l.tasks
Filled _ = Unit {0}

pub record TasksKept (p : Plan) (s : ArrivalState) : Type 0 where
  pub once : (k : ℕ) → everywhere (task_times k) s ≡ one_if (ltb k s.claimed && ltb k (task_count p))

pub record SlotsFilled (s : ArrivalState) : Type 0 where
  pub results : Each Filled s.results
  pub batches : Each Filled s.batches

-- a claimed task counts 1
both_low : (k n m : ℕ) → k < n → k < m → one_if (ltb k n && ltb k m) ≡ 1
both_low k n m a b = ap one_if (and_from _ _ (lt-ltb k n a) (lt-ltb k m b))

-- one that is not claimed counts 0
first_high : (k n m : ℕ) → n ≤ k → one_if (ltb k n && ltb k m) ≡ 0
first_high k n m a = ap (λ b. one_if (b && ltb k m)) (le-ltb k n a)

-- and so does a number that is no task
second_high : (k n m : ℕ) → m ≤ k → one_if (ltb k n && ltb k m) ≡ 0
second_high k n m a = ap (λ b. one_if (ltb k n && b)) (le-ltb k m a) ∙ one_if_never (ltb k n)

-- one claim more draws the task n, where there is one
claim_step : (k n m : ℕ) → n < m → one_if (ltb k (n + 1) && ltb k m) ≡ one_if (ltb k n && ltb k m) + one_if (eqb n k)
claim_step k n m low = dite (ℕ_discrete n k)
    (λ y. let a = eq_one n k y in let b = both_low k (n + 1) m (omega arith) (omega arith) in let c = first_high k n m (omega arith) in omega arith)
    (λ y. let a = eq_none n k y in dite (dec_lt k n) (λ z. let b = both_low k (n + 1) m (omega arith) (omega arith) in let c = both_low k n m (omega arith) (omega arith) in omega arith)
    (λ z. let b = first_high k (n + 1) m (omega arith) in let c = first_high k n m (omega arith) in omega arith))

-- a claim past the last task draws none
claim_past : (k n m : ℕ) → m ≤ n → one_if (ltb k (n + 1) && ltb k m) ≡ one_if (ltb k n && ltb k m)
claim_past k n m high = dite (dec_lt k m) (λ y. let a = both_low k (n + 1) m (omega arith) y in let b = both_low k n m (omega arith) y in omega arith) (λ y. let a = second_high k (n + 1) m (omega arith) in let b = second_high k n m (omega arith) in omega arith)

module _ (p : Plan) (good : IsPlan p) where
  abbrev T : ArrivalState → Type 0
  T = TasksKept p

  -- a move that changes no number of labels keeps it
  as_before : (s : ArrivalState) → T s → (t : ArrivalState) → t.claimed ≡ s.claimed → ((k : ℕ) → everywhere (task_times k) t ≡ everywhere (task_times k) s) → T t
  as_before s f t claimed every = record { once = λ k. let a = f.once k in let b = every k in let c : one_if (ltb k t.claimed && ltb k (task_count p)) ≡ one_if (ltb k s.claimed && ltb k (task_count p)) = ap (λ n. one_if (ltb k n && ltb k (task_count p))) claimed in omega arith }

  -- and so one that changes no label
  unmoved : (s : ArrivalState) → T s → (t : ArrivalState) → Unmoved s t → T t
  unmoved s f t u = as_before s f t u.claimed (λ k. u.every (task_times k) refl)

  -- a claim puts one task into a hand, if any
  drawn : (s : ArrivalState) (i : ℕ) (v : View) → T s → get_elem? s.desks i ≡ some v → T (record s { claimed = s.claimed + 1; desks = set s.desks i (after_claim p v s.claimed) })
  drawn s i v f e = let n : ℕ = s.claimed in let m : ℕ = task_count p in record {
    once = λ k. let a = f.once k in dite (dec_lt n m)
        (λ y. let b = every_claimed p s (task_times k) i v e y in let c = claim_step k n m y in let d = times_cons k n [] in omega arith)
        (λ y. let b = every_ended p s (task_times k) i v e (omega arith) in let c = claim_past k n m (omega arith) in omega arith);
  }

  -- every move keeps each task at one place
  pub tasks_move : (s : ArrivalState) (m : Move) → HasShape p s → WordsFit p s → ResultsFit p s → LabelsFit p s → BatchesKept p s → T s → T (move p s m)
  tasks_move s (claim i) h ws r n b f = desk_keeps T s i _ _ f (λ v e _. drawn s i v f e)
  tasks_move s (take_task i k) h ws r n b f = unmoved_take_task p T s f (unmoved s f) i k
  tasks_move s (arrive i k) h ws r n b f = unmoved_arrive p T s f (unmoved s f) i k
  tasks_move s (put i q t l) h ws r n b f = item_keeps T s i _ _ _ f (λ v e x g m. let y = slot_there p good s i q t v x h ws r e g in by_test T (is_at_slot x) _ _
      (λ at. let z = arrived_found p good s n i v e q t x g in let lab = put_label v q l z.0 (subst (λ w. may_put v q l w ≡ true) z.1 m) (sym (ap is_at_slot z.1) ∙ at) in
      as_before s f _ refl (λ k. let a = every_put p s (task_times k) i v e q t x y.0 z.0 l refl g z.1 y.1 y.2 in let c : times k l.tasks ≡ times k (z.0.task ∷ []) = ap (times k) lab.0 in omega arith))
      (λ _. unmoved_reach_result p T s f (unmoved s f) i q t v x y.0 e g y.1 y.2))
  tasks_move s (count i q t) h ws r n b f = unmoved_count p T s f (unmoved s f) i q t
  tasks_move s (take_result i q t) h ws r n b f = item_keeps T s i _ _ _ f (λ v e x g m. by_label T s _ _ f (λ l o. let z = batch_found p good s n i v e q (t / p.batch) x g in
      as_before s f _ refl (λ k. let a = every_taken p s (task_times k) i v e q t x z.0 l g z.1 o in let c = times_append k z.0.taken.tasks l.tasks in omega arith)))
  tasks_move s (put_merged i q c l) h ws r n b f = item_keeps T s i _ _ _ f (λ v e x g m. let y = batch_slot p good s h n b i q c v x e g in by_test T (is_at_slot x) _ _
      (λ at. let z = batch_found p good s n i v e q c x g in let lab = merged_label l z.0 (subst (λ w. may_put_merged l w ≡ true) z.1 m) (sym (ap is_at_slot z.1) ∙ at) in
      as_before s f _ refl (λ k. let a = every_merged p s (task_times k) i v e q c x y.0 z.0 l g z.1 y.1 y.2 in let d : times k l.tasks ≡ times k z.0.taken.tasks = ap (times k) lab.tasks in omega arith))
      (λ _. unmoved_reach_batch p T s f (unmoved s f) i q c v x y.0 e g y.1 y.2))
  tasks_move s (split i k) h ws r n b f = unmoved_split p T s f (unmoved s f) i k
  tasks_move s (join i j) h ws r n b f = unmoved_join p T s f (unmoved s f) i j
  tasks_move s (close i q c) h ws r n b f = unmoved_close p T s f (unmoved s f) i q c
  tasks_move s (stop i k) h ws r n b f = item_keeps T s i _ _ _ f (λ v e x g _. as_before s f _ refl (λ j. let a = every_stop p s (task_times j) i v e k x (set s.stops (search_of p k) 1) g in let c = a.2 in omega arith))
  tasks_move s (stopped i q) h ws r n b f = unmoved_stopped p T s f (unmoved s f) i q

  -- no slot that is set is full of nothing
  pub filled_move : (s : ArrivalState) (m : Move) → LabelsFit p s → SlotsFilled s → SlotsFilled (move p s m)
  filled_move s (claim i) n f = desk_keeps SlotsFilled s i _ _ f (λ v e _. record { results = f.results; batches = f.batches })
  filled_move s (take_task i k) n f = item_keeps SlotsFilled s i _ _ _ f (λ v e x g _. record { results = f.results; batches = f.batches })
  filled_move s (arrive i k) n f = item_keeps SlotsFilled s i _ _ _ f (λ v e x g _. record { results = f.results; batches = f.batches })
  filled_move s (put i q t l) n f = item_keeps SlotsFilled s i _ _ _ f (λ v e x g m. by_test SlotsFilled (is_at_slot x) _ _
      (λ at. let z = arrived_found p good s n i v e q t x g in let lab = put_label v q l z.0 (subst (λ w. may_put v q l w ≡ true) z.1 m) (sym (ap is_at_slot z.1) ∙ at) in let c : length l.tasks ≡ 1 = ap length lab.0 in
      record { results = each_set Filled s.results (place_of p q t) (holds l) f.results (omega arith); batches = f.batches })
      (λ _. record { results = each_set Filled s.results (place_of p q t) reached f.results tt; batches = f.batches }))
  filled_move s (count i q t) n f = item_keeps SlotsFilled s i _ _ _ f (λ v e x g _. record { results = f.results; batches = f.batches })
  filled_move s (take_result i q t) n f = item_keeps SlotsFilled s i _ _ _ f (λ v e x g m. by_label SlotsFilled s _ _ f (λ l o. record { results = each_set Filled s.results (place_of p q t) emptied f.results tt; batches = f.batches }))
  filled_move s (put_merged i q c l) n f = item_keeps SlotsFilled s i _ _ _ f (λ v e x g m. by_test SlotsFilled (is_at_slot x) _ _
      (λ at. let z = batch_found p good s n i v e q c x g in let m' = subst (λ w. may_put_merged l w ≡ true) z.1 m in let lab = merged_label l z.0 m' (sym (ap is_at_slot z.1) ∙ at) in let none : length z.0.due ≡ 0 = ap length (none_due l z.0 m') in
      let d : length l.tasks ≡ length z.0.taken.tasks = ap length lab.tasks in let size = z.4.size in let some_there = batch_some p good z.0.search z.0.batch z.4.real in
      record { results = f.results; batches = each_set Filled s.batches (place_of p q c) (holds l) f.batches (omega arith) })
      (λ _. record { results = f.results; batches = each_set Filled s.batches (place_of p q c) reached f.batches tt }))
  filled_move s (split i k) n f = desk_keeps SlotsFilled s i _ _ f (λ v e _. record { results = f.results; batches = f.batches })
  filled_move s (join i j) n f = desk_keeps SlotsFilled s i _ _ f (λ v e m. desk_keeps SlotsFilled s j _ _ f (λ w d y. record { results = f.results; batches = f.batches }))
  filled_move s (close i q c) n f = desk_keeps SlotsFilled s i _ _ f (λ v e m. by_label SlotsFilled s _ _ f (λ l o. record { results = f.results; batches = each_set Filled s.batches (place_of p q c) emptied f.batches tt }))
  filled_move s (stop i k) n f = item_keeps SlotsFilled s i _ _ _ f (λ v e x g _. record { results = f.results; batches = f.batches })
  filled_move s (stopped i q) n f = desk_keeps SlotsFilled s i _ _ f (λ v e _. record { results = f.results; batches = f.batches })

  -- fresh slots are full of nothing
  none_filled : (n : ℕ) → Each Filled (replicate n fresh)
  none_filled zero i x e = absurd (some-ne-none x (sym e))
  none_filled (suc n) zero x e = subst Filled (some-injective fresh x e) tt
  none_filled (suc n) (suc i) x e = none_filled n i x e

  -- at the opening all are fresh
  pub filled_opened : SlotsFilled (opened p)
  filled_opened = record { results = none_filled (task_count p); batches = none_filled (task_count p) }

  -- fresh slots hold nothing
  nothing : (f : Label → ℕ) (n : ℕ) → in_slots f (replicate n fresh) ≡ 0
  nothing f zero = refl
  nothing f (suc n) = let a = sum_by-cons (in_slot f) fresh (replicate n fresh) in let b = nothing f n in omega arith

  -- at the opening no label counts
  pub every_opened : (f : Label → ℕ) → everywhere f (opened p) ≡ 0
  every_opened f = let a = nothing f (task_count p) in omega arith

  -- and no task is claimed
  pub tasks_opened : T (opened p)
  tasks_opened = record { once = λ k. let a = every_opened (task_times k) in let b = first_high k 0 (task_count p) (omega arith) in omega arith }
