-- A stop, a look at a stop word and a look that changes nothing keep the rule.
use Rattle.std.proofs.Common.{◌≡◌, ℕ, zero, suc, ◌+◌, ◌≤◌, bit_or, ◌∷◌, ◌++◌, length, get_or, set, sym, refl, ap, ◌∙◌, subst, arith}
use mathlib.Core.Option.{some, none}
use lib.ListN.{get_elem?}
use Rattle.atomic_table.specs.Table.{Me, step, keeps, Allows}
use Rattle.atomic_table.proofs.Lists.{set_again}
use Rattle.arrival_moves.specs.declared.item.Item.{Item}
use Rattle.arrival_moves.specs.declared.label.Label.{Label}
use Rattle.arrival_moves.specs.declared.plan.Plan.{Plan}
use Rattle.arrival_moves.specs.declared.view.View.{View}
use Rattle.arrival_table.specs.declared.cell.Cell.{Cell}
use Rattle.arrival_table.specs.declared.known.Known.{Known}
use Rattle.arrival_moves.specs.AfterMove.{after_stop, after_stopped}
use Rattle.arrival_moves.specs.Hands.{find_item}
use Rattle.arrival_moves.specs.Items.{is_loaded}
use Rattle.arrival_moves.specs.Moves.{ArrivalState, stop, stopped, run}
use Rattle.arrival_moves.specs.Plans.{search_of, task_count, IsPlan}
use Rattle.arrival_table.specs.Outs.{now_knows}
use Rattle.arrival_table.specs.Steps.{IsReached, Stops, ReadsStop, Looks}
use Rattle.arrival_moves.proofs.Runs.{kept_run, move_item_is, move_desk_is}
use Rattle.list_laws.proofs.PlaceSums.{sum_by_has}
use Rattle.arrival_table.proofs.Allowed.{again, desk_there, desks_now}
use Rattle.arrival_table.proofs.Lists.{set_word, get_right, set_right}
use Rattle.arrival_table.proofs.Outs.{out_stays}

pub or_one : (n : ℕ) → n ≤ 1 → bit_or n 1 ≡ 1
or_one zero h = refl
or_one (suc zero) h = refl
or_one (suc (suc n)) h = absurd (omega arith)

module _ {A R : Type 0} (load : A → Label) (outcome : R → Label) (p : Plan) (good : IsPlan p) where
  abbrev M : Type 0
  M = Me (Cell A R) Known

  -- the place of a stop word
  abbrev pub stop_at : ℕ → ℕ
  stop_at q = suc (p.searches + (task_count p + q))

  unfoldable pub allows_stop : (slots id k : ℕ) (me : M) (x : Item) → find_item (is_loaded k) me.0.view.hand ≡ some x → Allows (IsReached load outcome p) slots id me (stop_at (search_of p k)) (λ n. bit_or n 1) (Stops load outcome k (step slots (stop_at (search_of p k)) 1 0 none) me)
  allows_stop slots id k me x found s r _ here fits = let b : ArrivalState = run p r.0 in let f = kept_run p good r.0 in let v : View = me.0.view in let q : ℕ = search_of p k in let j : ℕ = p.searches + (task_count p + q) in let n : ℕ = get_or s.words (suc j) 0 in
      let there : get_elem? b.desks id ≡ some v = desk_there load outcome p good s b id me.0 r.1 here in
      let start : j ≡ length b.tickets + (task_count p + q) = (let l = f.shape.tickets in omega arith) in let next : task_count p + q ≡ length b.counts + q = (let l = f.shape.counts in omega arith) in
      let is : n ≡ get_or b.stops q 0 = ap (λ ws. get_or ws (suc j) 0) r.1.words ∙ (get_right b.tickets (b.counts ++ b.stops) j (task_count p + q) start ∙ get_right b.counts b.stops (task_count p + q) q next) in
      let low = f.notes.low q in let one : bit_or n 1 ≡ 1 = or_one n (omega arith) in let w : Known = now_knows me.0 (after_stop v k) in (
        w,
        keeps,
        tt,
        again load outcome p good s _ r (stop id k) _ (move_item_is b id _ _ _ v x there found refl) (record {
          words = ap (λ ws. set ws (suc j) (bit_or n 1)) r.1.words ∙ (ap (λ z. b.claimed ∷ set (b.tickets ++ (b.counts ++ b.stops)) j z) one ∙ ap (λ ws. b.claimed ∷ ws) (set_right b.tickets (b.counts ++ b.stops) j (task_count p + q) 1 start ∙ ap (λ ws. b.tickets ++ ws) (set_right b.counts b.stops (task_count p + q) q 1 next)));
          desks = desks_now load outcome p good s b id w r.1;
          loads = r.1.loads;
          results = r.1.results;
          batches = r.1.batches;
        }) (out_stays s.homes s.views id me.0 w r.2 here refl),
        refl,
      )

  unfoldable pub allows_read : (slots id q : ℕ) (me : M) → Allows (IsReached load outcome p) slots id me (stop_at q) (λ n. n) (ReadsStop load outcome q (step slots (stop_at q) 0 0 none) me)
  allows_read slots id q me s r _ here fits = let b : ArrivalState = run p r.0 in let f = kept_run p good r.0 in let v : View = me.0.view in let j : ℕ = p.searches + (task_count p + q) in let n : ℕ = get_or s.words (suc j) 0 in
      let there : get_elem? b.desks id ≡ some v = desk_there load outcome p good s b id me.0 r.1 here in
      let start : j ≡ length b.tickets + (task_count p + q) = (let l = f.shape.tickets in omega arith) in let next : task_count p + q ≡ length b.counts + q = (let l = f.shape.counts in omega arith) in
      let is : n ≡ get_or b.stops q 0 = ap (λ ws. get_or ws (suc j) 0) r.1.words ∙ (get_right b.tickets (b.counts ++ b.stops) j (task_count p + q) start ∙ get_right b.counts b.stops (task_count p + q) q next) in
      let low = f.notes.low q in let w : Known = now_knows me.0 (after_stopped v q n) in
      let to : record b { desks = set b.desks id (after_stopped v q (get_or b.stops q 0)) } ≡ record b { desks = set b.desks id (after_stopped v q n) } = ap (λ z. record b { desks = set b.desks id (after_stopped v q z) }) (sym is) in (
        w,
        keeps,
        tt,
        again load outcome p good s _ r (stopped id q) _ (move_desk_is b id _ _ v there refl ∙ to) (record {
          words = set_word s.words (suc j) ∙ r.1.words;
          desks = desks_now load outcome p good s b id w r.1;
          loads = r.1.loads;
          results = r.1.results;
          batches = r.1.batches;
        }) (out_stays s.homes s.views id me.0 w r.2 here refl),
        (refl, omega arith, λ h. is ∙ f.notes.noted id v there q h),
      )

  unfoldable pub allows_look : (slots id : ℕ) (me : M) → Allows (IsReached load outcome p) slots id me 0 (λ n. n) (Looks load outcome (step slots 0 0 0 none) me)
  allows_look slots id me s r _ here fits = let b : ArrivalState = run p r.0 in let f = kept_run p good r.0 in let v : View = me.0.view in
      let there : get_elem? b.desks id ≡ some v = desk_there load outcome p good s b id me.0 r.1 here in
      let has = sum_by_has (λ (u : View). u.left + u.drawn) b.desks id v there in let whole = f.claims.whole in (
        me.0,
        keeps,
        tt,
        (
          r.0,
          record {
            words = set_word s.words 0 ∙ r.1.words;
            desks = desks_now load outcome p good s b id me.0 r.1 ∙ set_again b.desks id v there;
            loads = r.1.loads;
            results = r.1.results;
            batches = r.1.batches;
          },
          out_stays s.homes s.views id me.0 me.0 r.2 here refl,
        ),
        (refl, omega arith),
      )

  -- the same under the names that the table and the step give the plan, the search and the word
  pub allows_stop_at : (l : Plan) (slots id k z w : ℕ) (me : M) (x : Item) → l ≡ p → z ≡ k → w ≡ stop_at (search_of p k) → find_item (is_loaded k) me.0.view.hand ≡ some x → Allows (IsReached load outcome l) slots id me w (λ n. bit_or n 1) (Stops load outcome z (step slots w 1 0 none) me)
  allows_stop_at l slots id k z w me x e g h found = let Q : Plan × ℕ × ℕ → Type 0 = λ y. Allows (IsReached load outcome y.0) slots id me y.2 (λ n. bit_or n 1) (Stops load outcome y.1 (step slots y.2 1 0 none) me) in
      subst Q (λ i. (sym e i, sym g i, sym h i)) (allows_stop slots id k me x found)

  pub allows_read_at : (l : Plan) (slots id q z w : ℕ) (me : M) → l ≡ p → z ≡ q → w ≡ stop_at q → Allows (IsReached load outcome l) slots id me w (λ n. n) (ReadsStop load outcome z (step slots w 0 0 none) me)
  allows_read_at l slots id q z w me e g h = let Q : Plan × ℕ × ℕ → Type 0 = λ y. Allows (IsReached load outcome y.0) slots id me y.2 (λ n. n) (ReadsStop load outcome y.1 (step slots y.2 0 0 none) me) in
      subst Q (λ i. (sym e i, sym g i, sym h i)) (allows_read slots id q me)

  pub allows_look_at : (l : Plan) (slots id : ℕ) (me : M) → l ≡ p → Allows (IsReached load outcome l) slots id me 0 (λ n. n) (Looks load outcome (step slots 0 0 0 none) me)
  allows_look_at l slots id me e = subst (λ y. Allows (IsReached load outcome y) slots id me 0 (λ n. n) (Looks load outcome (step slots 0 0 0 none) me)) (sym e) (allows_look slots id me)
