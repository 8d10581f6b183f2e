-- The slot of a task holds its load until the desk that drew it has taken it.
use Rattle.std.proofs.Common.{◌≡◌, ℕ, zero, suc, ◌+◌, ◌<◌, ◌≤◌, ◌⊎◌, inl, inr, ⊎_elim, true, false, eqb, ltb, get_or, ◌/◌, List, [], ◌∷◌, length, set, sym, refl, ap, ◌∙◌, arith}
use Rattle.std.proofs.lemmas.Bool.{ltb-true}
use mathlib.Core.Option.{some}
use mathlib.Core.Logic.{dite}
use native.Mathlib.Decide.{ℕ_discrete, dec_lt}
use lib.ListN.{get_elem?}
use Rattle.list_laws.proofs.Places.{set_else}
use Rattle.arrival_moves.specs.AfterMove.{after_claim, after_take_task, after_arrive, after_put, after_count, after_stop, batch_due}
use Rattle.arrival_moves.specs.Hands.{in_hands, find_item}
use Rattle.arrival_moves.specs.Items.{claimed_at, is_claimed, is_at_slot, is_marked}
use Rattle.arrival_moves.specs.Labels.{task_label}
use Rattle.arrival_moves.specs.Lists.{one_if}
use Rattle.arrival_moves.specs.Moves.{ArrivalState, Move, claim, take_task, arrive, put, count, take_result, put_merged, split, join, close, stop, stopped, move, opened, load_slots}
use Rattle.arrival_moves.specs.Plans.{task_count, place_of, search_of}
use Rattle.arrival_moves.specs.Slots.{holds, emptied}
use Rattle.arrival_moves.specs.declared.item.Item.{Item}
use Rattle.arrival_moves.specs.declared.item.Item.TheVariants.{Claimed, Loaded, Arrived, Put}
use Rattle.arrival_moves.specs.declared.plan.Plan.{Plan}
use Rattle.arrival_moves.specs.declared.view.View.{View}
use Rattle.arrival_moves.proofs.Cases.{desk_keeps, item_keeps}
use Rattle.list_laws.proofs.PlaceTests.{by_test}
use Rattle.arrival_moves.proofs.Items.{hands_more, hands_same, claimed_gives, loaded_gives, arrived_gives, put_gives}
use Rattle.arrival_moves.proofs.Quiet.{lt_one, lt_none, eq_one, eq_none, IsQuiet, Quietly, batch_due_none, quiet_open, quiet_take, quiet_merged, quiet_split, quiet_join, quiet_close, quiet_stopped}

pub record LoadsFit (p : Plan) (s : ArrivalState) : Type 0 where
  pub alone : (k : ℕ) → in_hands (claimed_at k) s.desks ≤ one_if (ltb k s.claimed)
  pub loads : (k : ℕ) → k < task_count p → (s.claimed ≤ k) ⊎ (1 ≤ in_hands (claimed_at k) s.desks) → get_elem? s.loads k ≡ some (holds (task_label k))
  pub tasks : (k : ℕ) → 1 ≤ in_hands (claimed_at k) s.desks → k < task_count p

-- the number of a claimed task knows no batch and no slot
pub claimed_quiet : (k : ℕ) → IsQuiet (claimed_at k)
claimed_quiet k = record { arrived = λ z. refl; batch = λ z. refl; closed = λ z. refl }

-- what comes into the hand with a ticket
abbrev pub arrived_items : ℕ → Item → ℕ → ℕ → List Item
arrived_items k x q t = Arrived (record { task = k; failed = is_marked x; search = q; ticket = t; at_slot = false }) ∷ []

module _ (p : Plan) where
  abbrev L : ArrivalState → Type 0
  L = LoadsFit p

  -- the loads fit where no claimed task comes and no slot changes
  fewer : (s t : ArrivalState) → L s → t.claimed ≡ s.claimed → t.loads ≡ s.loads → ((k : ℕ) → in_hands (claimed_at k) t.desks ≤ in_hands (claimed_at k) s.desks) → L t
  fewer s t f claimed loads less = record {
    alone = λ k. let a = f.alone k in let b = less k in let c : one_if (ltb k t.claimed) ≡ one_if (ltb k s.claimed) = ap (λ n. one_if (ltb k n)) claimed in omega arith;
    loads = λ k h o. ap (λ xs. get_elem? xs k) loads ∙ f.loads k h (⊎_elim (λ (y : t.claimed ≤ k). inl (omega arith)) (λ (y : 1 ≤ in_hands (claimed_at k) t.desks). let b = less k in inr (omega arith)) o);
    tasks = λ k h. let b = less k in f.tasks k (omega arith);
  }

  -- and after a move that draws and counts nothing
  quietly : (s : ArrivalState) → L s → (t : ArrivalState) → Quietly s t → L t
  quietly s f t u = fewer s t f u.claimed u.loads (λ k. let h = u.hands (claimed_at k) (claimed_quiet k) in omega arith)

  -- a claim draws one task, if any
  drawn : (s : ArrivalState) (i : ℕ) (v : View) → L s → get_elem? s.desks i ≡ some v → L (record s { claimed = s.claimed + 1; desks = set s.desks i (after_claim p v s.claimed) })
  drawn s i v f e = let n : ℕ = s.claimed in let w : View = after_claim p v n in let vs : List View = set s.desks i w in
      let more : (k : ℕ) → in_hands (claimed_at k) vs ≤ in_hands (claimed_at k) s.desks + one_if (eqb n k) = λ k.
      by_test (λ (h : List Item). w.hand ≡ h → in_hands (claimed_at k) vs ≤ in_hands (claimed_at k) s.desks + one_if (eqb n k)) (ltb n (task_count p)) _ _
      (λ _ g. let a = hands_more (claimed_at k) s.desks i v w (Claimed n) e g in omega arith) (λ _ g. let a = hands_same (claimed_at k) s.desks i v w e g in omega arith) refl in
      record {
        alone = λ k. let a = f.alone k in let m = more k in dite (ℕ_discrete n k)
            (λ same. let b = eq_one n k same in let c = lt_none k n (omega arith) in let d = lt_one k (n + 1) (omega arith) in omega arith)
            (λ other. let b = eq_none n k other in below k n (in_hands (claimed_at k) vs) (omega arith));
        loads = λ k h o. let m = more k in ⊎_elim (λ (y : n + 1 ≤ k). f.loads k h (inl (omega arith)))
            (λ (y : 1 ≤ in_hands (claimed_at k) vs). dite (ℕ_discrete n k) (λ same. f.loads k h (inl (omega arith))) (λ other. let b = eq_none n k other in f.loads k h (inr (omega arith)))) o;
        tasks = λ k h. by_test (λ (hand : List Item). w.hand ≡ hand → k < task_count p) (ltb n (task_count p)) _ _
            (λ y g. let a = hands_more (claimed_at k) s.desks i v w (Claimed n) e g in let c = ltb-true n (task_count p) y in dite (ℕ_discrete n k) (λ same. omega arith) (λ other. let b = eq_none n k other in f.tasks k (omega arith)))
            (λ _ g. let a = hands_same (claimed_at k) s.desks i v w e g in f.tasks k (omega arith)) refl;
      }
    where
      below : (k n a : ℕ) → a ≤ one_if (ltb k n) → a ≤ one_if (ltb k (n + 1))
      below k n a h = dite (dec_lt k n) (λ y. let b = lt_one k n y in let c = lt_one k (n + 1) (omega arith) in omega arith) (λ y. let b = lt_none k n (omega arith) in omega arith)

  -- the load that is taken is that of the task that goes from the hand
  taken : (s : ArrivalState) (i k : ℕ) (v : View) (x : Item) → L s → get_elem? s.desks i ≡ some v → find_item (is_claimed k) v.hand ≡ some x → L (record s { loads = set s.loads k emptied; desks = set s.desks i (after_take_task v k) })
  taken s i k v x f e g = let w : View = after_take_task v k in let vs : List View = set s.desks i w in
      let less : (j : ℕ) → in_hands (claimed_at j) vs + one_if (eqb k j) ≡ in_hands (claimed_at j) s.desks = λ j. let a = claimed_gives (claimed_at j) s.desks i v w e k (Loaded (record { task = k; failed = false }) ∷ []) x g refl in omega arith in
      record {
        alone = λ j. let a = f.alone j in let m = less j in omega arith;
        loads = λ j h o. let m = less j in dite (ℕ_discrete k j)
            (λ same. let b = eq_one k j same in let a = f.alone j in dite (dec_lt j s.claimed)
            (λ y. let c = lt_one j s.claimed y in ⊎_elim (λ (z : s.claimed ≤ j). absurd (omega arith)) (λ (z : 1 ≤ in_hands (claimed_at j) vs). absurd (omega arith)) o)
            (λ y. let c = lt_none j s.claimed (omega arith) in absurd (omega arith)))
            (λ other. set_else s.loads k j emptied (λ y. other (sym y)) ∙ f.loads j h (⊎_elim (λ (z : s.claimed ≤ j). inl z) (λ (z : 1 ≤ in_hands (claimed_at j) vs). inr (omega arith)) o));
        tasks = λ j h. let m = less j in f.tasks j (omega arith);
      }

  -- every move keeps the loads fit
  pub loads_move : (s : ArrivalState) (m : Move) → L s → L (move p s m)
  loads_move s (claim i) f = desk_keeps L s i _ _ f (λ v e _. drawn s i v f e)
  loads_move s (take_task i k) f = item_keeps L s i _ _ _ f (λ v e x g _. taken s i k v x f e g)
  loads_move s (arrive i k) f = item_keeps L s i _ _ _ f (λ v e x g _. fewer s _ f refl refl (λ j. let a = loaded_gives (claimed_at j) s.desks i v (after_arrive v k x (search_of p k) (get_or s.tickets (search_of p k) 0)) e k (arrived_items k x (search_of p k) (get_or s.tickets (search_of p k) 0)) x g refl in let b = a.2 in omega arith))
  loads_move s (put i q t l) f = item_keeps L s i _ _ _ f (λ v e x g _. by_test L (is_at_slot x) _ _
      (λ _. fewer s _ f refl refl (λ j. let a = arrived_gives (claimed_at j) s.desks i v (after_put v q t) e q t (Put (record { search = q; ticket = t }) ∷ []) x g refl in let b = a.4 in omega arith)) (λ _. quiet_open p L s f (quietly s f) i q t v x _ e g))
  loads_move s (count i q t) f = item_keeps L s i _ _ _ f (λ v e x g _. fewer s _ f refl refl (λ j. let a = let n : ℕ = get_or s.counts (place_of p q (t / p.batch)) 0 + 1 in put_gives (claimed_at j) s.desks i v (after_count p v q t n) e q t (batch_due p q (t / p.batch) n) x g refl in let b = batch_due_none (claimed_at j) p q (t / p.batch) (get_or s.counts (place_of p q (t / p.batch)) 0 + 1) (claimed_quiet j) in omega arith))
  loads_move s (take_result i q t) f = quiet_take p L s f (quietly s f) i q t
  loads_move s (put_merged i q b l) f = quiet_merged p L s f (quietly s f) i q b l
  loads_move s (split i n) f = quiet_split p L s f (quietly s f) i n
  loads_move s (join i j) f = quiet_join p L s f (quietly s f) i j
  loads_move s (close i q b) f = quiet_close p L s f (quietly s f) i q b
  loads_move s (stop i k) f = item_keeps L s i _ _ _ f (λ v e x g _. fewer s _ f refl refl (λ j. let a = loaded_gives (claimed_at j) s.desks i v (after_stop v k) e k (Loaded (record { task = k; failed = true }) ∷ []) x g refl in let b = a.2 in omega arith))
  loads_move s (stopped i q) f = quiet_stopped p L s f (quietly s f) i q

  -- at the opening each slot has its load
  at_first : (n k : ℕ) (qs : List ℕ) → k < length qs → get_elem? (load_slots n qs) k ≡ some (holds (task_label (n + k)))
  at_first n k [] h = absurd (omega arith)
  at_first n zero (q ∷ qs) h = ap (λ m. some (holds (task_label m))) (omega arith)
  at_first n (suc k) (q ∷ qs) h = at_first (suc n) k qs (omega arith) ∙ (let e : suc n + k ≡ n + suc k = omega arith in ap (λ m. some (holds (task_label m))) e)

  -- and no task is claimed
  pub loads_opened : L (opened p)
  loads_opened = record { alone = λ k. omega arith; tasks = λ k h. absurd (omega arith); loads = λ k h _. at_first 0 k p.tasks h ∙ (let e : 0 + k ≡ k = omega arith in ap (λ m. some (holds (task_label m))) e) }
