-- A search's ticket word is the number of its tasks that were drawn and no longer wait in a hand.
use Rattle.std.proofs.Common.{◌≡◌, ℕ, zero, suc, ◌+◌, ◌/◌, ◌<◌, ◌≤◌, true, false, eqb, ltb, get_or, replicate, List, [], ◌∷◌, length, set, sym, refl, ap, ◌∙◌, subst, arith, get_or-set_same, get_or-set_other}
use Rattle.std.proofs.lemmas.Bool.{ltb-true, ltb-false}
use Rattle.std.proofs.lemmas.List.{take_all}
use Rattle.std.proofs.lemmas.List.Sums.{sum_by-cons, sum_by_more, sum_by-take-le}
use mathlib.Core.Option.{some}
use mathlib.Core.Logic.{dite}
use native.Mathlib.Decide.{ℕ_discrete, dec_lt}
use lib.ListN.{get_elem?}
use Rattle.arrival_moves.specs.AfterMove.{after_claim, after_take_task, after_arrive, after_put, after_count, after_stop, batch_due}
use Rattle.arrival_moves.specs.Hands.{in_hands, find_item}
use Rattle.arrival_moves.specs.Items.{waiting_of, is_loaded, is_at_slot}
use Rattle.arrival_moves.specs.Lists.{one_if, times}
use Rattle.arrival_moves.specs.Moves.{ArrivalState, Move, claim, take_task, arrive, put, count, take_result, put_merged, split, join, close, stop, stopped, move, opened}
use Rattle.arrival_moves.specs.Plans.{task_count, place_of, search_of, tasks_of, drawn_of, IsPlan}
use Rattle.arrival_moves.specs.declared.item.Item.{Item}
use Rattle.arrival_moves.specs.declared.item.Item.TheVariants.{Claimed, Loaded, Put}
use Rattle.arrival_moves.specs.declared.plan.Plan.{Plan}
use Rattle.arrival_moves.specs.declared.view.View.{View}
use Rattle.arrival_moves.proofs.Cases.{desk_keeps, item_keeps}
use Rattle.list_laws.proofs.PlaceTests.{by_test}
use Rattle.arrival_moves.proofs.Items.{hands_more, hands_same, claimed_gives, loaded_gives, arrived_gives, put_gives}
use Rattle.arrival_moves.specs.Fairness.{HasShape}
use Rattle.arrival_moves.proofs.Quiet.{eq_one, eq_none, IsQuiet, Quietly, batch_due_none, quiet_open, quiet_take, quiet_merged, quiet_split, quiet_join, quiet_close, quiet_stopped}
use Rattle.arrival_moves.proofs.Loads.{arrived_items}
use Rattle.arrival_moves.proofs.OneIf.{one_if_le}

pub record WordsFit (p : Plan) (s : ArrivalState) : Type 0 where
  pub word : (q : ℕ) → get_or s.tickets q 0 + in_hands (waiting_of p q) s.desks ≡ drawn_of p q s.claimed

-- the number of waiting tasks knows no batch and no slot
pub waiting_quiet : (p : Plan) (q : ℕ) → IsQuiet (waiting_of p q)
waiting_quiet p q = record { arrived = λ z. refl; batch = λ z. refl; closed = λ z. refl }

-- no task is of a search past the last
none_of : (q n : ℕ) (xs : List ℕ) → ((k : ℕ) → k < length xs → get_or xs k 0 < n) → n ≤ q → times q xs ≡ 0
none_of q n [] h le = refl
none_of q n (x ∷ xs) h le = let a = h 0 (omega arith) in let b = none_of q n xs (λ k l. h (suc k) (omega arith)) le in let c = sum_by-cons (λ y. one_if (eqb y q)) x xs in let d = eq_none x q (λ e. omega arith) in omega arith

module _ (p : Plan) (good : IsPlan p) where
  -- a search's claimed tasks are at most its tasks
  pub drawn_le : (q n : ℕ) → drawn_of p q n ≤ tasks_of p q
  drawn_le q n = sum_by-take-le (λ y. one_if (eqb y q)) p.tasks n

  -- a search with a claimed task is one of the plan
  pub drawn_valid : (q n : ℕ) → 1 ≤ drawn_of p q n → q < p.searches
  drawn_valid q n h = dite (dec_lt q p.searches) (λ y. y) (λ y. let a = none_of q p.searches p.tasks good.tasks (omega arith) in let b = drawn_le q n in absurd (omega arith))

  abbrev W : ArrivalState → Type 0
  W = WordsFit p

  -- the words fit where no task begins or ceases to wait
  words_same : (s t : ArrivalState) (vs : List View) → W s → t.claimed ≡ s.claimed → t.tickets ≡ s.tickets → t.desks ≡ vs → ((q : ℕ) → in_hands (waiting_of p q) vs ≡ in_hands (waiting_of p q) s.desks) → W t
  words_same s t vs f claimed tickets desks same = record { word = λ q. let a = f.word q in let b = same q in let h : in_hands (waiting_of p q) t.desks ≡ in_hands (waiting_of p q) vs = ap (in_hands (waiting_of p q)) desks in let c : get_or t.tickets q 0 ≡ get_or s.tickets q 0 = ap (λ xs. get_or xs q 0) tickets in let d : drawn_of p q t.claimed ≡ drawn_of p q s.claimed = ap (drawn_of p q) claimed in omega arith }

  -- and after a move that draws and counts nothing
  quietly : (s : ArrivalState) → W s → (t : ArrivalState) → Quietly s t → W t
  quietly s f t u = words_same s t t.desks f u.claimed u.tickets refl (λ q. u.hands (waiting_of p q) (waiting_quiet p q))

  -- a claimed task waits
  drawn : (s : ArrivalState) (i : ℕ) (v : View) → W s → get_elem? s.desks i ≡ some v → W (record s { claimed = s.claimed + 1; desks = set s.desks i (after_claim p v s.claimed) })
  drawn s i v f e = record {
    word = λ q. let n : ℕ = s.claimed in let w : View = after_claim p v n in let a = f.word q in
        by_test (λ (h : List Item). w.hand ≡ h → get_or s.tickets q 0 + in_hands (waiting_of p q) (set s.desks i w) ≡ drawn_of p q (n + 1)) (ltb n (task_count p)) _ _
        (λ y g. let b = hands_more (waiting_of p q) s.desks i v w (Claimed n) e g in let c = sum_by_more (λ z. one_if (eqb z q)) p.tasks n 0 (ltb-true _ _ y) in omega arith)
        (λ y g. let b = hands_same (waiting_of p q) s.desks i v w e g in let le : task_count p ≤ n = ltb-false _ _ y in
        let c : drawn_of p q (n + 1) ≡ drawn_of p q n = ap (times q) (take_all (n + 1) p.tasks (omega arith) ∙ sym (take_all n p.tasks le)) in omega arith) refl;
  }

  -- a task that arrives draws a ticket of its search, below the number of its tasks
  pub arrived : (s : ArrivalState) (i k : ℕ) (v : View) (x : Item) → HasShape p s → W s → get_elem? s.desks i ≡ some v → find_item (is_loaded k) v.hand ≡ some x → let q = search_of p k in let t = get_or s.tickets q 0 in
      (q < p.searches) × (t < tasks_of p q) × W (record s { tickets = set s.tickets q (t + 1); desks = set s.desks i (after_arrive v k x q t) })
  arrived s i k v x shape f e g = let q : ℕ = search_of p k in let t : ℕ = get_or s.tickets q 0 in let w : View = after_arrive v k x q t in let vs : List View = set s.desks i w in
      let gives : (r : ℕ) → in_hands (waiting_of p r) vs + one_if (eqb q r) ≡ in_hands (waiting_of p r) s.desks = λ r. let a = loaded_gives (waiting_of p r) s.desks i v w e k (arrived_items k x q t) x g refl in let b = a.2 in omega arith in
      let mine = gives q in let one = eq_one q q refl in let a = f.word q in let l = drawn_le q s.claimed in let valid : q < p.searches = drawn_valid q s.claimed (omega arith) in (
        valid,
        omega arith,
        record {
          word = λ r. let b = gives r in let c = f.word r in dite (ℕ_discrete q r)
              (λ same. let d = eq_one q r same in let is : get_or (set s.tickets q (t + 1)) r 0 ≡ t + 1 = subst (λ z. get_or (set s.tickets q (t + 1)) z 0 ≡ t + 1) same (get_or-set_same s.tickets q (t + 1) 0 (subst (λ z. q < z) (sym shape.tickets) valid)) in
              let old : get_or s.tickets r 0 ≡ t = ap (λ z. get_or s.tickets z 0) (sym same) in omega arith)
              (λ other. let d = eq_none q r other in let is : get_or (set s.tickets q (t + 1)) r 0 ≡ get_or s.tickets r 0 = get_or-set_other s.tickets q r (t + 1) 0 (λ y. other (sym y)) in omega arith);
        },
      )

  -- every move keeps the words fit
  pub words_move : (s : ArrivalState) (m : Move) → HasShape p s → W s → W (move p s m)
  words_move s (claim i) h f = desk_keeps W s i _ _ f (λ v e _. drawn s i v f e)
  words_move s (take_task i k) h f = item_keeps W s i _ _ _ f (λ v e x g _. words_same s _ (set s.desks i (after_take_task v k)) f refl refl refl (λ r. let a = claimed_gives (waiting_of p r) s.desks i v (after_take_task v k) e k (Loaded (record { task = k; failed = false }) ∷ []) x g refl in omega arith))
  words_move s (arrive i k) h f = item_keeps W s i _ _ _ f (λ v e x g _. (arrived s i k v x h f e g).2)
  words_move s (put i q t l) h f = item_keeps W s i _ _ _ f (λ v e x g _. by_test W (is_at_slot x) _ _
      (λ _. words_same s _ (set s.desks i (after_put v q t)) f refl refl refl (λ r. let a = arrived_gives (waiting_of p r) s.desks i v (after_put v q t) e q t (Put (record { search = q; ticket = t }) ∷ []) x g refl in let b = a.4 in omega arith)) (λ _. quiet_open p W s f (quietly s f) i q t v x _ e g))
  words_move s (count i q t) h f = item_keeps W s i _ _ _ f (λ v e x g _. words_same s _ (set s.desks i (after_count p v q t (get_or s.counts (place_of p q (t / p.batch)) 0 + 1))) f refl refl refl (λ r. let n : ℕ = get_or s.counts (place_of p q (t / p.batch)) 0 + 1 in
      let a = put_gives (waiting_of p r) s.desks i v (after_count p v q t n) e q t (batch_due p q (t / p.batch) n) x g refl in let b = batch_due_none (waiting_of p r) p q (t / p.batch) n (waiting_quiet p r) in omega arith))
  words_move s (take_result i q t) h f = quiet_take p W s f (quietly s f) i q t
  words_move s (put_merged i q b l) h f = quiet_merged p W s f (quietly s f) i q b l
  words_move s (split i n) h f = quiet_split p W s f (quietly s f) i n
  words_move s (join i j) h f = quiet_join p W s f (quietly s f) i j
  words_move s (close i q b) h f = quiet_close p W s f (quietly s f) i q b
  words_move s (stop i k) h f = item_keeps W s i _ _ _ f (λ v e x g _. words_same s _ (set s.desks i (after_stop v k)) f refl refl refl (λ r. let a = loaded_gives (waiting_of p r) s.desks i v (after_stop v k) e k (Loaded (record { task = k; failed = true }) ∷ []) x g refl in let b = a.2 in omega arith))
  words_move s (stopped i q) h f = quiet_stopped p W s f (quietly s f) i q

  -- a word at the opening
  pub zeros : (n q : ℕ) → let z : ℕ = 0 in get_or (replicate n z) q 0 ≡ z
  zeros zero q = refl
  zeros (suc n) zero = refl
  zeros (suc n) (suc q) = zeros n q

  -- at the opening no task is claimed
  pub words_opened : W (opened p)
  words_opened = record { word = λ q. let a = zeros p.searches q in omega arith }

-- a search has at most all tasks
pub of_search_le : (q : ℕ) (xs : List ℕ) → times q xs ≤ length xs
of_search_le q [] = omega arith
of_search_le q (x ∷ xs) = let a = of_search_le q xs in let b = sum_by-cons (λ y. one_if (eqb y q)) x xs in let c = one_if_le (eqb x q) in omega arith
