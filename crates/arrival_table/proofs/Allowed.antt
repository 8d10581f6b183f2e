-- Each step of a desk keeps the rule, since it is one move.
use Rattle.std.proofs.Common.{◌≡◌, ◌≢◌, ℕ, zero, suc, ◌+◌, ◌%◌, ◌^◌, ◌<◌, ◌≤◌, Bool, inr, ⊎_elim, List, [], ◌∷◌, ◌++◌, map, length, get_or, set, sym, refl, ap, ◌∙◌, subst, arith}
use Rattle.std.proofs.lemmas.Bool.{le-leb}
use Rattle.std.proofs.lemmas.List.Sums.{fold-append}
use mathlib.Core.Option.{Option, none, some, some-injective}
use lib.ListN.{get_elem?}
use Rattle.atomic_table.specs.Table.{State, Me, step, keeps, takes, gives, Allows}
use Rattle.arrival_moves.specs.declared.item.Item.{Item}
use Rattle.arrival_moves.specs.declared.item.Item.TheVariants.{Claimed}
use Rattle.arrival_moves.specs.declared.label.Label.{Label}
use Rattle.arrival_moves.specs.declared.plan.Plan.{Plan}
use Rattle.arrival_moves.specs.declared.view.View.{View}
use Rattle.arrival_table.specs.declared.cell.Cell.{Cell}
use Rattle.arrival_table.specs.declared.cell.Cell.TheVariants.{Vacant, Load, Outcome}
use Rattle.arrival_table.specs.declared.known.Known.{Known}
use Rattle.arrival_moves.specs.AfterMove.{after_claim, after_take_task, after_arrive}
use Rattle.arrival_moves.specs.Hands.{find_item, in_hand, in_hands}
use Rattle.arrival_moves.specs.Items.{is_claimed, is_loaded, claimed_at}
use Rattle.arrival_moves.specs.Labels.{task_label}
use Rattle.arrival_moves.specs.Moves.{ArrivalState, Move, claim, take_task, arrive, move, run, opened}
use Rattle.arrival_moves.specs.Plans.{task_count, search_of, IsPlan}
use Rattle.arrival_moves.specs.Slots.{Slot, fresh, reached, holds, emptied}
use Rattle.arrival_table.specs.Outs.{OutOnce, is_away, knows, now_knows, now_has_out}
use Rattle.arrival_table.specs.Steps.{IsStateOf, IsReached, IsLoadAt, IsOutcomeAt, Claims, TakesTask, Arrives, GivesBack}
use Rattle.arrival_moves.proofs.Cases.{exchanged_sum, found_is}
use Rattle.arrival_moves.proofs.Items.{as_claimed}
use Rattle.list_laws.proofs.Places.{at_set, set_else}
use Rattle.arrival_moves.proofs.Quiet.{eq_one}
use Rattle.arrival_moves.proofs.Runs.{kept_run, move_desk_is, move_item_is}
use Rattle.list_laws.proofs.PlaceSums.{sum_by_rest, sum_by_has}
use Rattle.arrival_moves.proofs.Words.{arrived, of_search_le}
use Rattle.arrival_table.proofs.Lists.{set_word, get_left, set_left}
use Rattle.arrival_table.proofs.Outs.{views_set, views_get, out_stays, out_taken, out_given, out_away}

module _ {A R : Type 0} (load : A → Label) (outcome : R → Label) (p : Plan) (good : IsPlan p) where
  abbrev S : Type 0
  S = State (Cell A R) Known

  abbrev M : Type 0
  M = Me (Cell A R) Known

  -- after one move more the rule holds again
  unfoldable pub again : (s t : S) (r : IsReached load outcome p s) (m : Move) (k : ArrivalState) → move p (run p r.0) m ≡ k → IsStateOf load outcome p k t → OutOnce t.homes t.views → IsReached load outcome p t
  again s t r m k e h o = let now : run p (r.0 ++ m ∷ []) ≡ k = fold-append (move p) (opened p) r.0 (m ∷ []) ∙ e in (r.0 ++ m ∷ [], subst (λ z. IsStateOf load outcome p z t) (sym now) h, o)

  -- the view of a desk, and of all desks after one changed
  pub desk_there : (s : S) (k : ArrivalState) (id : ℕ) (d : Known) → IsStateOf load outcome p k s → get_elem? s.views id ≡ some d → get_elem? k.desks id ≡ some d.view
  desk_there s k id d h here = ap (λ vs. get_elem? vs id) (sym h.desks) ∙ views_get s.views id d here

  pub desks_now : (s : S) (k : ArrivalState) (id : ℕ) (w : Known) → IsStateOf load outcome p k s → map (λ (d : Known). d.view) (set s.views id w) ≡ set k.desks id w.view
  desks_now s k id w h = views_set s.views id w ∙ ap (λ vs. set vs id w.view) h.desks

  unfoldable pub allows_claim : (slots id : ℕ) (me : M) → 1 ≤ me.0.view.left → Allows (IsReached load outcome p) slots id me 0 (λ n. (n + 1) % 2 ^ 64) (Claims load outcome p (step slots 0 1 0 none) me)
  allows_claim slots id me some_left s r _ here fits = let k : ArrivalState = run p r.0 in let f = kept_run p good r.0 in let v : View = me.0.view in let n : ℕ = get_or s.words 0 0 in
      let is : n ≡ k.claimed = ap (λ ws. get_or ws 0 0) r.1.words in
      let there : get_elem? k.desks id ≡ some v = desk_there s k id me.0 r.1 here in
      let low = sum_by_rest (λ (u : View). u.drawn) (λ (u : View). u.left + u.drawn) k.desks (λ i u e. omega arith) id v there in let has = sum_by_has (λ (u : View). u.drawn) k.desks id v there in let a = f.claims.word in let b = f.claims.whole in
      let small : (n + 1) % 2 ^ 64 ≡ k.claimed + 1 = omega arith in
      let w : View = after_claim p v k.claimed in let d : Known = now_knows me.0 (after_claim p v n) in
      let to : record k { claimed = k.claimed + 1; desks = set k.desks id w } ≡ record k { claimed = k.claimed + 1; desks = set k.desks id (after_claim p v n) } = ap (λ z. record k { claimed = k.claimed + 1; desks = set k.desks id (after_claim p v z) }) (sym is) in (
        d,
        keeps,
        tt,
        again s _ r (claim id) _ (move_desk_is k id _ _ v there (le-leb _ _ some_left) ∙ to) (record {
          words = ap (λ ws. set ws 0 ((n + 1) % 2 ^ 64)) r.1.words ∙ ap (λ z. z ∷ (k.tickets ++ (k.counts ++ k.stops))) small;
          desks = desks_now s k id d r.1;
          loads = r.1.loads;
          results = r.1.results;
          batches = r.1.batches;
        }) (out_stays s.homes s.views id me.0 d r.2 here refl),
        (refl, omega arith, omega arith),
      )

  -- the same under the names that the table and the step give the plan
  pub allows_claim_at : (l d : Plan) (slots id : ℕ) (me : M) → l ≡ p → d ≡ p → 1 ≤ me.0.view.left → Allows (IsReached load outcome l) slots id me 0 (λ n. (n + 1) % 2 ^ 64) (Claims load outcome d (step slots 0 1 0 none) me)
  allows_claim_at l d slots id me e g left = let Q : Plan × Plan → Type 0 = λ z. Allows (IsReached load outcome z.0) slots id me 0 (λ n. (n + 1) % 2 ^ 64) (Claims load outcome z.1 (step slots 0 1 0 none) me) in
      subst Q (λ i. (sym e i, sym g i)) (allows_claim slots id me left)

  -- slots that keep their values
  pub load_stays : (hs ts : List (Option (Cell A R))) (j : ℕ) (x : Slot) → get_elem? ts j ≡ get_elem? hs j → IsLoadAt load outcome hs j x → IsLoadAt load outcome ts j x
  load_stays hs ts j fresh e h = tt
  load_stays hs ts j reached e h = tt
  load_stays hs ts j emptied e h = tt
  load_stays hs ts j (holds l) e h = (h.0, e ∙ h.1, h.2)

  pub outcome_stays : (hs ts : List (Option (Cell A R))) (j : ℕ) (x : Slot) → get_elem? ts j ≡ get_elem? hs j → IsOutcomeAt load outcome hs j x → IsOutcomeAt load outcome ts j x
  outcome_stays hs ts j fresh e h = e ∙ h
  outcome_stays hs ts j reached e h = tt
  outcome_stays hs ts j emptied e h = tt
  outcome_stays hs ts j (holds l) e h = (h.0, e ∙ h.1, h.2)

  -- an item that a desk has counts among all hands
  pub found_counts : (f : Item → ℕ) (is : Item → Bool) (vs : List View) (i : ℕ) (v : View) (x : Item) → get_elem? vs i ≡ some v → find_item is v.hand ≡ some x → f x ≤ in_hands f vs
  found_counts f is vs i v x here found = let a = exchanged_sum f is [] v.hand x found in let b = sum_by_has (in_hand f) vs i v here in omega arith

  unfoldable pub allows_take : (slots id k : ℕ) (me : M) (x : Item) → find_item (is_claimed k) me.0.view.hand ≡ some x → Allows (IsReached load outcome p) slots id me 0 (λ n. n) (TakesTask load outcome k (step slots 0 0 0 none) me)
  allows_take slots id k me x found s r _ here fits = let b : ArrivalState = run p r.0 in let f = kept_run p good r.0 in let v : View = me.0.view in
      let there : get_elem? b.desks id ≡ some v = desk_there s b id me.0 r.1 here in
      let is : x ≡ Claimed k = as_claimed k x (found_is (is_claimed k) v.hand x found) in let same : claimed_at k x ≡ claimed_at k (Claimed k) = ap (claimed_at k) is in let one = eq_one k k refl in let many = found_counts (claimed_at k) (is_claimed k) b.desks id v x there found in
      let small : k < task_count p = f.loads.tasks k (omega arith) in
      let y = r.1.loads k (holds (task_label k)) (f.loads.loads k small (inr (omega arith))) in
      let ts : List (Option (Cell A R)) = set s.homes k none in let w : View = after_take_task v k in let d : Known = now_has_out me.0 w k in (
        d,
        takes k (Load y.0),
        y.1,
        again s _ r (take_task id k) _ (move_item_is b id _ _ _ v x there found refl) (record {
          words = set_word s.words 0 ∙ r.1.words;
          desks = desks_now s b id d r.1;
          loads = λ j z e. ⊎_elim (λ (q : (j ≡ k) × (emptied ≡ z)). subst (IsLoadAt load outcome ts j) q.1 tt) (λ (q : (j ≢ k) × (get_elem? b.loads j ≡ some z)). load_stays s.homes ts j z (set_else s.homes k j none q.0) (r.1.loads j z q.1)) (at_set b.loads k j emptied z e);
          results = λ j z e. outcome_stays s.homes ts (task_count p + j) z (set_else s.homes k (task_count p + j) none (λ q. omega arith)) (r.1.results j z e);
          batches = λ j z e. outcome_stays s.homes ts (task_count p + task_count p + j) z (set_else s.homes k (task_count p + task_count p + j) none (λ q. omega arith)) (r.1.batches j z e);
        }) (out_taken s.homes s.views id k (Load y.0) me.0 d r.2 here y.1 refl),
        (y.0, refl, y.2),
      )

  pub allows_take_at : (l : Plan) (slots id k z : ℕ) (me : M) (x : Item) → l ≡ p → z ≡ k → find_item (is_claimed k) me.0.view.hand ≡ some x → Allows (IsReached load outcome l) slots id me 0 (λ n. n) (TakesTask load outcome z (step slots 0 0 0 none) me)
  allows_take_at l slots id k z me x e g found = let Q : Plan × ℕ → Type 0 = λ y. Allows (IsReached load outcome y.0) slots id me 0 (λ n. n) (TakesTask load outcome y.1 (step slots 0 0 0 none) me) in
      subst Q (λ i. (sym e i, sym g i)) (allows_take slots id k me x found)

  unfoldable pub allows_arrive : (slots id k : ℕ) (me : M) (x : Item) → find_item (is_loaded k) me.0.view.hand ≡ some x → Allows (IsReached load outcome p) slots id me (suc (search_of p k)) (λ n. (n + 1) % 2 ^ 64) (Arrives load outcome p k (step slots (suc (search_of p k)) 1 0 none) me)
  allows_arrive slots id k me x found s r _ here fits = let b : ArrivalState = run p r.0 in let f = kept_run p good r.0 in let v : View = me.0.view in let q : ℕ = search_of p k in let n : ℕ = get_or s.words (suc q) 0 in let t : ℕ = get_or b.tickets q 0 in
      let there : get_elem? b.desks id ≡ some v = desk_there s b id me.0 r.1 here in
      let go = arrived p good b id k v x f.shape f.words there found in
      let fits_word : q < length b.tickets = subst (λ z. q < z) (sym f.shape.tickets) go.0 in
      let is : n ≡ t = ap (λ ws. get_or ws (suc q) 0) r.1.words ∙ get_left b.tickets (b.counts ++ b.stops) q fits_word in
      let few = of_search_le q p.tasks in let cap = good.few in let less = go.1 in
      let small : (n + 1) % 2 ^ 64 ≡ t + 1 = omega arith in
      let d : Known = now_knows me.0 (after_arrive v k x q n) in
      let to : record b { tickets = set b.tickets q (t + 1); desks = set b.desks id (after_arrive v k x q t) } ≡ record b { tickets = set b.tickets q (t + 1); desks = set b.desks id (after_arrive v k x q n) } = ap (λ z. record b { tickets = set b.tickets q (t + 1); desks = set b.desks id (after_arrive v k x q z) }) (sym is) in (
        d,
        keeps,
        tt,
        again s _ r (arrive id k) _ (move_item_is b id _ _ _ v x there found refl ∙ to) (record {
          words = ap (λ ws. set ws (suc q) ((n + 1) % 2 ^ 64)) r.1.words ∙ (ap (λ z. b.claimed ∷ set (b.tickets ++ (b.counts ++ b.stops)) q z) small ∙ ap (λ ws. b.claimed ∷ ws) (set_left b.tickets (b.counts ++ b.stops) q (t + 1) fits_word));
          desks = desks_now s b id d r.1;
          loads = r.1.loads;
          results = r.1.results;
          batches = r.1.batches;
        }) (out_stays s.homes s.views id me.0 d r.2 here refl),
        (x, found, refl, omega arith),
      )

  pub allows_arrive_at : (l d : Plan) (slots id k z w : ℕ) (me : M) (x : Item) → l ≡ p → d ≡ p → z ≡ k → w ≡ suc (search_of p k) → find_item (is_loaded k) me.0.view.hand ≡ some x
      → Allows (IsReached load outcome l) slots id me w (λ n. (n + 1) % 2 ^ 64) (Arrives load outcome d z (step slots w 1 0 none) me)
  allows_arrive_at l d slots id k z w me x e g a b found = let Q : Plan × Plan × ℕ × ℕ → Type 0 = λ y. Allows (IsReached load outcome y.0) slots id me y.3 (λ n. (n + 1) % 2 ^ 64) (Arrives load outcome y.1 y.2 (step slots y.3 1 0 none) me) in
      subst Q (λ i. (sym e i, sym g i, sym a i, sym b i)) (allows_arrive slots id k me x found)

  -- a slot that is out holds nothing in the state, so it may go back with any value
  unfoldable pub allows_give_back : (slots id j : ℕ) (v : View) (c : Cell A R) → Allows (IsReached load outcome p) slots id (now_has_out (knows v) v j, (j, c) ∷ []) 0 (λ n. n) (GivesBack load outcome (step slots 0 0 0 none) (now_has_out (knows v) v j, (j, c) ∷ []))
  allows_give_back slots id j v c s r _ here fits = let b : ArrivalState = run p r.0 in let d : Known = now_has_out (knows v) v j in let w : Known = knows v in
      let ts : List (Option (Cell A R)) = set s.homes j (some c) in
      let away : (h : Option (Cell A R)) → get_elem? s.homes j ≡ some h → is_away h ≡ 1 = λ h e. out_away s.homes s.views id j d [] h r.2 here refl e in
      let not_home : (y : Cell A R) → get_elem? s.homes j ≡ some (some y) → ⊥ = λ y e. let one = away (some y) e in absurd (omega arith) in (
        w,
        gives,
        tt,
        (
          r.0,
          record {
            words = set_word s.words 0 ∙ r.1.words;
            desks = desks_now s b id w r.1 ∙ set_same b.desks id v (desk_there s b id d r.1 here);
            loads = λ i z e. back_load s.homes i j c z not_home (r.1.loads i z e);
            results = λ i z e. back_outcome s.homes (task_count p + i) j c z not_home (r.1.results i z e);
            batches = λ i z e. back_outcome s.homes (task_count p + task_count p + i) j c z not_home (r.1.batches i z e);
          },
          out_given s.homes s.views id j c d w [] r.2 here refl refl,
        ),
        refl,
      )
    where
      back_load : (hs : List (Option (Cell A R))) (i j : ℕ) (c : Cell A R) (x : Slot) → ((y : Cell A R) → get_elem? hs j ≡ some (some y) → ⊥) → IsLoadAt load outcome hs i x → IsLoadAt load outcome (set hs j (some c)) i x
      back_load hs i j c fresh n h = tt
      back_load hs i j c reached n h = tt
      back_load hs i j c emptied n h = tt
      back_load hs i j c (holds l) n h = (h.0, set_else hs j i (some c) (λ e. n (Load h.0) (ap (get_elem? hs) (sym e) ∙ h.1)) ∙ h.1, h.2)

      back_outcome : (hs : List (Option (Cell A R))) (i j : ℕ) (c : Cell A R) (x : Slot) → ((y : Cell A R) → get_elem? hs j ≡ some (some y) → ⊥) → IsOutcomeAt load outcome hs i x → IsOutcomeAt load outcome (set hs j (some c)) i x
      back_outcome hs i j c fresh n h = set_else hs j i (some c) (λ e. n Vacant (ap (get_elem? hs) (sym e) ∙ h)) ∙ h
      back_outcome hs i j c reached n h = tt
      back_outcome hs i j c emptied n h = tt
      back_outcome hs i j c (holds l) n h = (h.0, set_else hs j i (some c) (λ e. n (Outcome h.0) (ap (get_elem? hs) (sym e) ∙ h.1)) ∙ h.1, h.2)

      set_same : (vs : List View) (i : ℕ) (v : View) → get_elem? vs i ≡ some v → set vs i v ≡ vs
      set_same [] i v e = refl
      set_same (x ∷ xs) zero v e = λ k. sym (some-injective x v e) k ∷ xs
      set_same (x ∷ xs) (suc i) v e = λ k. x ∷ set_same xs i v e k

  pub allows_give_back_at : (l : Plan) (slots id j : ℕ) (me : M) (v : View) (c : Cell A R) → l ≡ p → me ≡ (now_has_out (knows v) v j, (j, c) ∷ []) → Allows (IsReached load outcome l) slots id me 0 (λ n. n) (GivesBack load outcome (step slots 0 0 0 none) me)
  allows_give_back_at l slots id j me v c e is = let Q : Plan × M → Type 0 = λ y. Allows (IsReached load outcome y.0) slots id y.1 0 (λ n. n) (GivesBack load outcome (step slots 0 0 0 none) y.1) in
      subst Q (λ i. (sym e i, sym is i)) (allows_give_back slots id j v c)
