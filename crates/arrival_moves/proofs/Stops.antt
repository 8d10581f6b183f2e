-- A stop word is 1 only where a task or a result of its search failed; where a desk noted its search, or a result of it
-- was skipped, it is 1.
use Rattle.std.proofs.Common.{◌≡◌, ℕ, zero, suc, ◌+◌, ◌/◌, ◌<◌, ◌≤◌, ⊎_elim, ◌⊎◌, inl, inr, Bool, true, false, cond, ◌||◌, eqb, get_or, List, [], ◌∷◌, ◌++◌, length, set, sym, refl, ap, ◌∙◌, subst, arith, get_or-set_other}
use Rattle.std.specs.Prelude.{◌==◌}
use Rattle.std.proofs.lemmas.Bool.{false≢true, or_cases, eqb-true, cond-true, cond-false, cond_both, cases_Bool}
use Rattle.std.proofs.lemmas.List.Sums.{sum_by-cons, sum_by-append}
use mathlib.Core.Option.{some}
use mathlib.Core.Logic.{dite}
use native.Mathlib.Decide.{ℕ_discrete, dec_lt}
use lib.ListN.{get_elem?}
use Rattle.arrival_moves.specs.declared.label.Label.{Label}
use Rattle.arrival_moves.specs.declared.plan.Plan.{Plan}
use Rattle.arrival_moves.specs.declared.view.View.{View}
use Rattle.arrival_moves.specs.declared.item.Item.{Item}
use Rattle.arrival_moves.specs.Lists.{one_if, times, contains}
use Rattle.arrival_moves.specs.Labels.{joined_label}
use Rattle.arrival_moves.specs.Slots.{holds, in_slot}
use Rattle.arrival_moves.specs.Plans.{task_count, search_of, tasks_of, place_of, IsPlan}
use Rattle.arrival_moves.specs.Items.{is_loaded, is_batch, is_at_slot, is_due, in_item}
use Rattle.arrival_moves.specs.Hands.{find_item}
use Rattle.arrival_moves.specs.AfterMove.{first_view, spent_view, after_claim, after_split, split_off, after_join, after_stop, after_stopped}
use Rattle.arrival_moves.specs.Guards.{may_put, may_put_merged, implies}
use Rattle.arrival_moves.specs.Moves.{ArrivalState, Move, claim, take_task, arrive, put, count, take_result, put_merged, split, join, close, stop, stopped, move, opened}
use Rattle.arrival_moves.specs.Fairness.{everywhere, of_search, failed_tasks, skipped_tasks}
use Rattle.list_laws.proofs.PlaceSums.{Each, each_set, each_snoc, sum_by_has}
use Rattle.arrival_moves.proofs.Each.{each_one}
use Rattle.arrival_moves.proofs.NumberLists.{times_cons}
use Rattle.arrival_moves.proofs.OneIf.{one_if_true}
use Rattle.arrival_moves.proofs.Cases.{desk_keeps, item_keeps, by_label}
use Rattle.list_laws.proofs.PlaceTests.{by_test}
use Rattle.arrival_moves.specs.Fairness.{HasShape}
use Rattle.arrival_moves.proofs.Quiet.{eq_one}
use Rattle.arrival_moves.proofs.Words.{WordsFit, zeros}
use Rattle.arrival_moves.proofs.Results.{ResultsFit, slot_there}
use Rattle.arrival_moves.proofs.LabelsFit.{LabelsFit, arrived_found, batch_found, due_now, due_range, put_label, merged_label}
use Rattle.arrival_moves.proofs.Batches.{BatchesKept, batch_slot, hands_has}
use Rattle.arrival_moves.proofs.Everywhere.{marked_label, Unmoved, unmoved_take_task, unmoved_arrive, unmoved_reach_result, unmoved_count, unmoved_reach_batch, unmoved_split, unmoved_join, unmoved_close, unmoved_stopped, every_claimed, every_ended, every_put, every_taken, every_merged, every_stop}
use Rattle.arrival_moves.proofs.TasksOnce.{every_opened}
use Rattle.std.proofs.lemmas.Bool.{or_right}

-- the searches that a desk noted
abbrev pub Noted : List ℕ → View → Type 0
Noted ws v = (q : ℕ) → contains q v.stopped ≡ true → get_or ws q 0 ≡ 1

pub record NotesKept (s : ArrivalState) : Type 0 where
  pub noted : Each (Noted s.stops) s.desks
  -- a stop word is 0 or 1
  pub low : (q : ℕ) → get_or s.stops q 0 ≤ 1

pub record StopsKept (p : Plan) (s : ArrivalState) : Type 0 where
  pub failed : (q : ℕ) → get_or s.stops q 0 ≡ 1 → 1 ≤ everywhere (failed_tasks p q) s
  pub skipped : (q : ℕ) → 1 ≤ everywhere (skipped_tasks p q) s → get_or s.stops q 0 ≡ 1

-- a stop word that is 1 stays 1
still_one : (ws : List ℕ) (j q : ℕ) → get_or ws q 0 ≡ 1 → get_or (set ws j 1) q 0 ≡ 1
still_one [] j q e = e
still_one (w ∷ ws) zero zero e = refl
still_one (w ∷ ws) zero (suc q) e = e
still_one (w ∷ ws) (suc j) zero e = e
still_one (w ∷ ws) (suc j) (suc q) e = still_one ws j q e

-- and none becomes greater than 1
still_low : (ws : List ℕ) (j q : ℕ) → get_or ws q 0 ≤ 1 → get_or (set ws j 1) q 0 ≤ 1
still_low [] j q h = h
still_low (w ∷ ws) zero zero h = omega arith
still_low (w ∷ ws) zero (suc q) h = h
still_low (w ∷ ws) (suc j) zero h = h
still_low (w ∷ ws) (suc j) (suc q) h = still_low ws j q h

-- what two lists in a row contain, one of them does
contains_append : (k : ℕ) (xs ys : List ℕ) → contains k (xs ++ ys) ≡ true → (contains k xs ≡ true) ⊎ (contains k ys ≡ true)
contains_append k [] ys h = inr h
contains_append k (x ∷ xs) ys h = ⊎_elim (λ (e : eqb x k ≡ true). inl (ap (λ b. b || contains k xs) e)) (λ (e : contains k (xs ++ ys) ≡ true). ⊎_elim (λ (y : contains k xs ≡ true). inl (or_right (eqb x k) (contains k xs) y)) (λ (y : contains k ys ≡ true). inr y) (contains_append k xs ys e)) (or_cases (eqb x k) (contains k (xs ++ ys)) h)

-- a move that changes no stop word and no note keeps the notes
noted_same : (s t : ArrivalState) (i : ℕ) (v w : View) → NotesKept s → get_elem? s.desks i ≡ some v → t.stops ≡ s.stops → t.desks ≡ set s.desks i w → w.stopped ≡ v.stopped → NotesKept t
noted_same s t i v w f e stops desks same = record {
  noted = subst (λ ws. Each (Noted ws) t.desks) (sym stops) (subst (Each (Noted s.stops)) (sym desks) (each_set (Noted s.stops) s.desks i w f.noted (λ q h. f.noted i v e q (subst (λ xs. contains q xs ≡ true) same h))));
  low = λ q. let a = f.low q in let b : get_or t.stops q 0 ≡ get_or s.stops q 0 = ap (λ ws. get_or ws q 0) stops in omega arith;
}

-- every move keeps the notes
pub noted_move : (p : Plan) (s : ArrivalState) (m : Move) → NotesKept s → NotesKept (move p s m)
noted_move p s (claim i) f = desk_keeps NotesKept s i _ _ f (λ v e _. noted_same s _ i v _ f e refl refl refl)
noted_move p s (take_task i k) f = item_keeps NotesKept s i _ _ _ f (λ v e x g _. noted_same s _ i v _ f e refl refl refl)
noted_move p s (arrive i k) f = item_keeps NotesKept s i _ _ _ f (λ v e x g _. noted_same s _ i v _ f e refl refl refl)
noted_move p s (put i q t l) f = item_keeps NotesKept s i _ _ _ f (λ v e x g _. by_test NotesKept (is_at_slot x) _ _ (λ _. noted_same s _ i v _ f e refl refl refl) (λ _. noted_same s _ i v _ f e refl refl refl))
noted_move p s (count i q t) f = item_keeps NotesKept s i _ _ _ f (λ v e x g _. noted_same s _ i v _ f e refl refl refl)
noted_move p s (take_result i q t) f = item_keeps NotesKept s i _ _ _ f (λ v e x g _. by_label NotesKept s _ _ f (λ l o. noted_same s _ i v _ f e refl refl refl))
noted_move p s (put_merged i q b l) f = item_keeps NotesKept s i _ _ _ f (λ v e x g _. by_test NotesKept (is_at_slot x) _ _ (λ _. noted_same s _ i v _ f e refl refl refl) (λ _. noted_same s _ i v _ f e refl refl refl))
noted_move p s (split i k) f = desk_keeps NotesKept s i _ _ f (λ v e _. record { noted = each_snoc (Noted s.stops) (set s.desks i (after_split v k)) (split_off k) (each_set (Noted s.stops) s.desks i (after_split v k) f.noted (f.noted i v e)) (λ q h. absurd (false≢true h)); low = f.low })
noted_move p s (join i j) f = desk_keeps NotesKept s i _ _ f (λ v e _. desk_keeps NotesKept s j _ _ f (λ w d _. record {
  noted = each_set (Noted s.stops) (set s.desks i (after_join v w)) j spent_view (each_set (Noted s.stops) s.desks i (after_join v w) f.noted
      (λ q h. ⊎_elim (λ (y : contains q v.stopped ≡ true). f.noted i v e q y) (λ (y : contains q w.stopped ≡ true). f.noted j w d q y) (contains_append q v.stopped w.stopped h))) (λ q h. absurd (false≢true h));
  low = f.low;
}))
noted_move p s (close i q b) f = desk_keeps NotesKept s i _ _ f (λ v e _. by_label NotesKept s _ _ f (λ l o. noted_same s _ i v _ f e refl refl refl))
noted_move p s (stop i k) f = item_keeps NotesKept s i _ _ _ f (λ v e x g _. let ws : List ℕ = set s.stops (search_of p k) 1 in let f' : Each (Noted ws) s.desks = λ j u d q h. still_one s.stops (search_of p k) q (f.noted j u d q h) in
    record { noted = each_set (Noted ws) s.desks i (after_stop v k) f' (f' i v e); low = λ q. still_low s.stops (search_of p k) q (f.low q) })
noted_move p s (stopped i q) f = desk_keeps NotesKept s i _ _ f (λ v e _. let n : ℕ = get_or s.stops q 0 in record {
  noted = each_set (Noted s.stops) s.desks i (after_stopped v q n) f.noted (cond_both (n == 1) (q ∷ v.stopped) v.stopped (λ (xs : List ℕ). (r : ℕ) → contains r xs ≡ true → get_or s.stops r 0 ≡ 1)
      (λ y r h. ⊎_elim (λ (z : eqb q r ≡ true). ap (λ k. get_or s.stops k 0) (sym (eqb-true q r z)) ∙ eqb-true n 1 y) (λ (z : contains r v.stopped ≡ true). f.noted i v e r z) (or_cases (eqb q r) (contains r v.stopped) h)) (λ _. f.noted i v e));
  low = f.low;
})

-- at the opening there are none
pub noted_opened : (p : Plan) → IsPlan p → NotesKept (opened p)
noted_opened p good = record { noted = each_one (Noted (opened p).stops) first_view (λ q h. absurd (false≢true h)); low = λ q. let z = zeros p good p.searches q in omega arith }

-- of labels: the more tasks and the more failed, the greater the number
implied : (a b : Bool) → implies a b ≡ true → a ≡ true → b ≡ true
implied true b h e = h
implied false b h e = absurd (false≢true e)

-- a greater number under a weaker condition is no smaller
cond_le : (a b : Bool) (x y : ℕ) → (a ≡ true → b ≡ true) → x ≤ y → cond a x 0 ≤ cond b y 0
cond_le true b x y h le = let c : cond b y 0 ≡ y = cond-true b y 0 (h refl) in omega arith
cond_le false b x y h le = omega arith

-- two numbers under two conditions are at most their sum under either
cond_or : (a b : Bool) (x y n : ℕ) → n ≡ x + y → cond a x 0 + cond b y 0 ≤ cond (a || b) n 0
cond_or true true x y n e = omega arith
cond_or true false x y n e = omega arith
cond_or false true x y n e = omega arith
cond_or false false x y n e = omega arith

-- a number that is not 0 has its condition
pub cond_some : (b : Bool) (x : ℕ) → 1 ≤ cond b x 0 → (b ≡ true) × (1 ≤ x)
cond_some true x h = (refl, h)
cond_some false x h = absurd (omega arith)

-- a sum that is not 0 has a part that is not
pub some_of : (a b : ℕ) → 1 ≤ a + b → (1 ≤ a) ⊎ (1 ≤ b)
some_of zero b h = inr (omega arith)
some_of (suc a) b h = inl (omega arith)

module _ (p : Plan) (good : IsPlan p) where
  -- two lists of tasks in a row
  of_append : (q : ℕ) (xs ys : List ℕ) → of_search p q (xs ++ ys) ≡ of_search p q xs + of_search p q ys
  of_append q xs ys = sum_by-append (λ k. one_if (eqb (search_of p k) q)) xs ys

  -- one task
  of_one : (q k : ℕ) → of_search p q (k ∷ []) ≡ one_if (eqb (search_of p k) q)
  of_one q k = let a = sum_by-cons (λ j. one_if (eqb (search_of p j) q)) k [] in omega arith

  -- tasks all of one search
  pub of_all : (r q : ℕ) (ts : List ℕ) → ((k : ℕ) → 1 ≤ times k ts → search_of p k ≡ r) → of_search p q ts ≡ cond (eqb r q) (length ts) 0
  of_all r q [] h = sym (same (eqb r q))
    where
      same : (b : Bool) → let z : ℕ = 0 in cond b z z ≡ z
      same true = refl
      same false = refl
  of_all r q (t ∷ ts) h = let a = sum_by-cons (λ k. one_if (eqb (search_of p k) q)) t ts in let c = times_cons t t ts in let d = eq_one t t refl in let is : search_of p t ≡ r = h t (omega arith) in
      let b : one_if (eqb (search_of p t) q) ≡ one_if (eqb r q) = ap (λ y. one_if (eqb y q)) is in let f = of_all r q ts (λ k y. let z = times_cons k t ts in h k (omega arith)) in let g = one_more (eqb r q) (length ts) in omega arith
    where
      one_more : (b : Bool) (n : ℕ) → cond b (suc n) 0 ≡ one_if b + cond b n 0
      one_more true n = omega arith
      one_more false n = omega arith

  -- a label of the same tasks that fails where the other does
  failed_le : (q : ℕ) (l m : Label) → l.tasks ≡ m.tasks → implies l.failed m.failed ≡ true → failed_tasks p q l ≤ failed_tasks p q m
  failed_le q l m same h = cond_le l.failed m.failed (of_search p q l.tasks) (of_search p q m.tasks) (implied l.failed m.failed h) (let a : of_search p q l.tasks ≡ of_search p q m.tasks = ap (of_search p q) same in omega arith)

  -- and one that is skipped only where the other is
  skipped_le : (q : ℕ) (l m : Label) → l.tasks ≡ m.tasks → implies l.skipped m.skipped ≡ true → skipped_tasks p q l ≤ skipped_tasks p q m
  skipped_le q l m same h = cond_le l.skipped m.skipped (of_search p q l.tasks) (of_search p q m.tasks) (implied l.skipped m.skipped h) (let a : of_search p q l.tasks ≡ of_search p q m.tasks = ap (of_search p q) same in omega arith)

  -- a joined label fails where one of the two does
  failed_joined : (q : ℕ) (l m : Label) → failed_tasks p q l + failed_tasks p q m ≤ failed_tasks p q (joined_label l m)
  failed_joined q l m = cond_or l.failed m.failed (of_search p q l.tasks) (of_search p q m.tasks) (of_search p q (l.tasks ++ m.tasks)) (of_append q l.tasks m.tasks)

  abbrev S : ArrivalState → Type 0
  S = StopsKept p

  -- no failed task goes, no skipped one comes
  kept : (s : ArrivalState) → S s → (t : ArrivalState) → t.stops ≡ s.stops → ((q : ℕ) → everywhere (failed_tasks p q) s ≤ everywhere (failed_tasks p q) t) → ((q : ℕ) → 1 ≤ everywhere (skipped_tasks p q) t → get_or s.stops q 0 ≡ 1) → S t
  kept s f t stops more less = record {
    failed = λ q h. let a = f.failed q (ap (λ ws. get_or ws q 0) (sym stops) ∙ h) in let b = more q in omega arith;
    skipped = λ q h. ap (λ ws. get_or ws q 0) stops ∙ less q h;
  }

  -- and so a move that changes no label
  unmoved : (s : ArrivalState) → S s → (t : ArrivalState) → Unmoved s t → S t
  unmoved s f t u = kept s f t u.stops (λ q. let a = u.every (failed_tasks p q) refl in omega arith) (λ q h. let a = u.every (skipped_tasks p q) refl in f.skipped q (omega arith))

  -- a claimed task is neither failed nor skipped
  drawn : (s : ArrivalState) (i : ℕ) (v : View) → S s → get_elem? s.desks i ≡ some v → S (record s { claimed = s.claimed + 1; desks = set s.desks i (after_claim p v s.claimed) })
  drawn s i v f e = dite (dec_lt s.claimed (task_count p))
      (λ y. kept s f _ refl (λ q. let a = every_claimed p s (failed_tasks p q) i v e y in omega arith) (λ q h. let a = every_claimed p s (skipped_tasks p q) i v e y in f.skipped q (omega arith)))
      (λ y. kept s f _ refl (λ q. let a = every_ended p s (failed_tasks p q) i v e (omega arith) in omega arith) (λ q h. let a = every_ended p s (skipped_tasks p q) i v e (omega arith) in f.skipped q (omega arith)))

  -- a stop marks a task of its search
  stops_one : (s : ArrivalState) (i k : ℕ) (v : View) (x : Item) → S s → get_elem? s.desks i ≡ some v → find_item (is_loaded k) v.hand ≡ some x → S (record s { stops = set s.stops (search_of p k) 1; desks = set s.desks i (after_stop v k) })
  stops_one s i k v x f e g = let r : ℕ = search_of p k in let ws : List ℕ = set s.stops r 1 in record {
    failed = λ q h. let a = every_stop p s (failed_tasks p q) i v e k x ws g in let b = a.2 in let c = hands_has (in_item (failed_tasks p q)) s.desks i v (is_loaded k) x e g in let d : in_item (failed_tasks p q) x ≡ failed_tasks p q (marked_label k a.0) = ap (in_item (failed_tasks p q)) a.1 in
        let le : failed_tasks p q (marked_label k a.0) ≤ failed_tasks p q (marked_label k true) = cond_le a.0 true (of_search p q (k ∷ [])) (of_search p q (k ∷ [])) (λ _. refl) (omega arith) in
        dite (ℕ_discrete r q)
        (λ same. let one = of_one q k in let y = eq_one r q same in omega arith)
        (λ other. let old : get_or s.stops q 0 ≡ 1 = sym (get_or-set_other s.stops r q 1 0 (λ y. other (sym y))) ∙ h in let y = f.failed q old in omega arith);
    skipped = λ q h. let a = every_stop p s (skipped_tasks p q) i v e k x ws g in let b = a.2 in still_one s.stops r q (f.skipped q (omega arith));
  }

  -- a result that is taken: where one of the two says skipped, there was a skipped task before
  taken_skipped : (s : ArrivalState) (q t r : ℕ) (i : ℕ) (v : View) (x : Item) (l : Label) (n : LabelsFit p s) (e : get_elem? s.desks i ≡ some v) (g : find_item (is_batch q (t / p.batch)) v.hand ≡ some x) → is_due t x ≡ true → get_elem? s.results (place_of p q t) ≡ some (holds l)
      → 1 ≤ skipped_tasks p r (joined_label (batch_found p good s n i v e q (t / p.batch) x g).0.taken l) → 1 ≤ everywhere (skipped_tasks p r) s
  taken_skipped s q t r i v x l n e g m o h = let z = batch_found p good s n i v e q (t / p.batch) x g in let held = z.0 in let fits = z.4 in let has = due_now t held (subst (λ y. is_due t y ≡ true) z.1 m) in
      let range = due_range p good held t fits has in let lab = n.results q t l (subst (λ y. t < tasks_of p y) z.2 range.1) o in
      let taken_of : of_search p r held.taken.tasks ≡ cond (eqb q r) (length held.taken.tasks) 0 = of_all q r held.taken.tasks (λ k y. (fits.search k y).1 ∙ z.2) in
      let one_of : of_search p r l.tasks ≡ cond (eqb q r) (length l.tasks) 0 = of_all q r l.tasks (λ k y. (lab.1 k y).1) in
      let a = cond_some (held.taken.skipped || l.skipped) (of_search p r (held.taken.tasks ++ l.tasks)) h in let b = of_append r held.taken.tasks l.tasks in let len = lab.0 in
      let in_hand_one : skipped_tasks p r held.taken ≤ everywhere (skipped_tasks p r) s = (let c = hands_has (in_item (skipped_tasks p r)) s.desks i v (is_batch q (t / p.batch)) x e g in let d : in_item (skipped_tasks p r) x ≡ skipped_tasks p r held.taken = ap (in_item (skipped_tasks p r)) z.1 in omega arith) in
      let in_slot_one : skipped_tasks p r l ≤ everywhere (skipped_tasks p r) s = (let c = sum_by_has (in_slot (skipped_tasks p r)) s.results (place_of p q t) (holds l) o in omega arith) in
      ⊎_elim
      (λ (same : eqb q r ≡ true). ⊎_elim
      (λ (y : held.taken.skipped ≡ true). let c : skipped_tasks p r held.taken ≡ of_search p r held.taken.tasks = cond-true _ _ _ y in let d : cond (eqb q r) (length held.taken.tasks) 0 ≡ length held.taken.tasks = cond-true _ _ _ same in let k = fits.told y in omega arith)
      (λ (y : l.skipped ≡ true). let c : skipped_tasks p r l ≡ of_search p r l.tasks = cond-true _ _ _ y in let d : cond (eqb q r) (length l.tasks) 0 ≡ length l.tasks = cond-true _ _ _ same in omega arith)
      (or_cases held.taken.skipped l.skipped a.0))
      (λ (other : eqb q r ≡ false). let c : cond (eqb q r) (length held.taken.tasks) 0 ≡ 0 = cond-false _ _ _ other in let d : cond (eqb q r) (length l.tasks) 0 ≡ 0 = cond-false _ _ _ other in let k = a.1 in absurd (omega arith))
      (cases_Bool (eqb q r))

  -- every move keeps both
  pub stops_move : (s : ArrivalState) (m : Move) → HasShape p s → WordsFit p s → ResultsFit p s → LabelsFit p s → BatchesKept p s → NotesKept s → S s → S (move p s m)
  stops_move s (claim i) h ws r n b o f = desk_keeps S s i _ _ f (λ v e _. drawn s i v f e)
  stops_move s (take_task i k) h ws r n b o f = unmoved_take_task p S s f (unmoved s f) i k
  stops_move s (arrive i k) h ws r n b o f = unmoved_arrive p S s f (unmoved s f) i k
  stops_move s (put i q t l) h ws r n b o f = item_keeps S s i _ _ _ f (λ v e x g m. let y = slot_there p good s i q t v x h ws r e g in by_test S (is_at_slot x) _ _
      (λ at. let z = arrived_found p good s n i v e q t x g in let lab = put_label v q l z.0 (subst (λ w. may_put v q l w ≡ true) z.1 m) (sym (ap is_at_slot z.1) ∙ at) in
      kept s f _ refl
      (λ u. let a = every_put p s (failed_tasks p u) i v e q t x y.0 z.0 l refl g z.1 y.1 y.2 in let c = failed_le u (marked_label z.0.task z.0.failed) l (sym lab.0) lab.1 in omega arith)
      (λ u k. let a = every_put p s (skipped_tasks p u) i v e q t x y.0 z.0 l refl g z.1 y.1 y.2 in ⊎_elim
      (λ (c : 1 ≤ everywhere (skipped_tasks p u) s). f.skipped u c)
      (λ (c : 1 ≤ skipped_tasks p u l). let d = cond_some l.skipped (of_search p u l.tasks) c in let one : of_search p u l.tasks ≡ of_search p u (z.0.task ∷ []) = ap (of_search p u) lab.0 in let w = of_one u z.0.task in let some_one = d.1 in
      let is : search_of p z.0.task ≡ u = eqb-true _ _ (one_if_true (eqb (search_of p z.0.task) u) (omega arith)) in
      subst (λ j. get_or s.stops j 0 ≡ 1) (sym (z.5 ∙ z.2) ∙ is) (o.noted i v e q (implied l.skipped (contains q v.stopped) lab.2 d.0)))
      (some_of (everywhere (skipped_tasks p u) s) (skipped_tasks p u l) (omega arith))))
      (λ _. unmoved_reach_result p S s f (unmoved s f) i q t v x y.0 e g y.1 y.2))
  stops_move s (count i q t) h ws r n b o f = unmoved_count p S s f (unmoved s f) i q t
  stops_move s (take_result i q t) h ws r n b o f = item_keeps S s i _ _ _ f (λ v e x g m. by_label S s _ _ f (λ l d. let z = batch_found p good s n i v e q (t / p.batch) x g in
      kept s f _ refl
      (λ u. let a = every_taken p s (failed_tasks p u) i v e q t x z.0 l g z.1 d in let c = failed_joined u z.0.taken l in omega arith)
      (λ u k. let a = every_taken p s (skipped_tasks p u) i v e q t x z.0 l g z.1 d in ⊎_elim
      (λ (c : 1 ≤ everywhere (skipped_tasks p u) s). f.skipped u c)
      (λ (c : 1 ≤ skipped_tasks p u (joined_label z.0.taken l)). f.skipped u (taken_skipped s q t u i v x l n e g m d c))
      (some_of (everywhere (skipped_tasks p u) s) (skipped_tasks p u (joined_label z.0.taken l)) (omega arith)))))
  stops_move s (put_merged i q c l) h ws r n b o f = item_keeps S s i _ _ _ f (λ v e x g m. let y = batch_slot p good s h n b i q c v x e g in by_test S (is_at_slot x) _ _
      (λ at. let z = batch_found p good s n i v e q c x g in let lab = merged_label l z.0 (subst (λ w. may_put_merged l w ≡ true) z.1 m) (sym (ap is_at_slot z.1) ∙ at) in
      kept s f _ refl
      (λ u. let a = every_merged p s (failed_tasks p u) i v e q c x y.0 z.0 l g z.1 y.1 y.2 in let d = failed_le u z.0.taken l (sym lab.tasks) lab.failed in omega arith)
      (λ u k. let a = every_merged p s (skipped_tasks p u) i v e q c x y.0 z.0 l g z.1 y.1 y.2 in let d = skipped_le u l z.0.taken lab.tasks lab.skipped in f.skipped u (omega arith)))
      (λ _. unmoved_reach_batch p S s f (unmoved s f) i q c v x y.0 e g y.1 y.2))
  stops_move s (split i k) h ws r n b o f = unmoved_split p S s f (unmoved s f) i k
  stops_move s (join i j) h ws r n b o f = unmoved_join p S s f (unmoved s f) i j
  stops_move s (close i q c) h ws r n b o f = unmoved_close p S s f (unmoved s f) i q c
  stops_move s (stop i k) h ws r n b o f = item_keeps S s i _ _ _ f (λ v e x g _. stops_one s i k v x f e g)
  stops_move s (stopped i q) h ws r n b o f = unmoved_stopped p S s f (unmoved s f) i q

  -- at the opening no search is stopped
  pub stops_opened : S (opened p)
  stops_opened = record {
    failed = λ q h. let z = zeros p good p.searches q in absurd (omega arith);
    skipped = λ q h. let z = every_opened p good (skipped_tasks p q) in absurd (omega arith);
  }
