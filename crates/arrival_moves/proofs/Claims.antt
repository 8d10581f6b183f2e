-- The claims of all desks fit after every move.
use Rattle.std.proofs.Common.{◌≡◌, ◌≢◌, ℕ, zero, suc, ◌+◌, ◌≤◌, Bool, true, false, leb, ◌||◌, List, [], ◌∷◌, ◌++◌, set, sym, refl, ap, ◌∙◌, subst, arith}
use Rattle.std.specs.Prelude.{IsTrue}
use Rattle.std.proofs.lemmas.Bool.{leb-true, false≢true}
use mathlib.Core.Option.{some, some-injective, some-ne-none}
use lib.ListN.{get_elem?}
use Rattle.std.specs.List.{sum_by}
use Rattle.std.proofs.lemmas.List.Sums.{sum_by_push}
use Rattle.list_laws.proofs.Places.{set_else}
use Rattle.arrival_moves.specs.AfterMove.{first_view, spent_view, after_claim, after_split, split_off, after_join}
use Rattle.arrival_moves.specs.Fairness.{ClaimsFit}
use Rattle.arrival_moves.specs.Guards.{may_close}
use Rattle.arrival_moves.specs.Hands.{find_item}
use Rattle.arrival_moves.specs.Items.{is_at_slot}
use Rattle.arrival_moves.specs.Moves.{ArrivalState, Move, claim, take_task, arrive, put, count, take_result, put_merged, split, join, close, stop, stopped, move, opened}
use Rattle.arrival_moves.specs.Plans.{task_count}
use Rattle.arrival_moves.specs.declared.item.Item.{Item}
use Rattle.arrival_moves.specs.declared.plan.Plan.{Plan}
use Rattle.arrival_moves.specs.declared.view.View.{View}
use Rattle.list_laws.proofs.PlaceSums.{sum_by_set, each_set, each_snoc}
use Rattle.arrival_moves.proofs.CloseGuards.{close_guard}
use Rattle.arrival_moves.proofs.Cases.{desk_keeps, item_keeps, by_label, not_idle}
use Rattle.list_laws.proofs.PlaceTests.{by_test}
use Rattle.arrival_moves.proofs.Quiet.{apart_from, bare}

module _ (p : Plan) where
  -- where the desk has ended, all tasks are claimed
  abbrev Ended : ℕ → View → Type 0
  Ended n v = IsTrue v.ended → task_count p ≤ n

  -- a desk that made no claim has nothing in hand
  abbrev Idle : View → Type 0
  Idle v = v.drawn ≡ 0 → v.hand ≡ []

  -- no move but a claim, a split and a join changes these
  claims_same : (s t : ArrivalState) (i : ℕ) (v w : View) → ClaimsFit p s → get_elem? s.desks i ≡ some v → t.claimed ≡ s.claimed → t.desks ≡ set s.desks i w
      → w.left ≡ v.left → w.drawn ≡ v.drawn → w.ended ≡ v.ended → Idle w → ClaimsFit p t
  claims_same s t i v w f here claimed desks left drawn ended idle = let n : ℕ = s.claimed in record {
    word = let a = sum_by_set (λ (u : View). u.drawn) s.desks i v w here in let b : sum_by (λ (u : View). u.drawn) t.desks ≡ sum_by (λ (u : View). u.drawn) (set s.desks i w) = ap (sum_by (λ (u : View). u.drawn)) desks in let c = f.word in omega arith;
    whole = let a = sum_by_set (λ (u : View). u.left + u.drawn) s.desks i v w here in let b : sum_by (λ (u : View). u.left + u.drawn) t.desks ≡ sum_by (λ (u : View). u.left + u.drawn) (set s.desks i w) = ap (sum_by (λ (u : View). u.left + u.drawn)) desks in let c = f.whole in omega arith;
    ended = λ j u e yes. let r : task_count p ≤ n = each_set (Ended n) s.desks i w f.ended (λ y. f.ended i v here (subst IsTrue ended y)) j u (sym (ap (λ us. get_elem? us j) desks) ∙ e) yes in omega arith;
    idle = λ j u e. each_set Idle s.desks i w f.idle idle j u (sym (ap (λ us. get_elem? us j) desks) ∙ e);
  }

  -- an exchange in a hand changes no claim
  item_same : (s t : ArrivalState) (i : ℕ) (v : View) (is : Item → Bool) (x : Item) (h : List Item) → ClaimsFit p s → get_elem? s.desks i ≡ some v → find_item is v.hand ≡ some x → t.claimed ≡ s.claimed → t.desks ≡ set s.desks i (record v { hand = h }) → ClaimsFit p t
  item_same s t i v is x h f here found claimed desks = claims_same s t i v (record v { hand = h }) f here claimed desks refl refl refl (λ z. absurd (not_idle is v x found (f.idle i v here) z))

  -- a claim raises the word and the desk's number by one
  claims_drawn : (s : ArrivalState) (i : ℕ) (v : View) → ClaimsFit p s → get_elem? s.desks i ≡ some v → 1 ≤ v.left → ClaimsFit p (record s { claimed = s.claimed + 1; desks = set s.desks i (after_claim p v s.claimed) })
  claims_drawn s i v f here left = let n : ℕ = s.claimed in let w : View = after_claim p v n in record {
    word = let a = sum_by_set (λ (u : View). u.drawn) s.desks i v w here in let c = f.word in omega arith;
    whole = let a = sum_by_set (λ (u : View). u.left + u.drawn) s.desks i v w here in let c = f.whole in omega arith;
    ended = each_set (Ended (n + 1)) s.desks i w (λ j u e yes. let r = f.ended j u e yes in omega arith) (by_or v.ended (leb (task_count p) n) (λ y. let r = f.ended i v here y in omega arith) (λ y. let r = leb-true _ _ y in omega arith));
    idle = each_set Idle s.desks i w f.idle (λ z. absurd (omega arith));
  } where
    by_or : (a b : Bool) → (IsTrue a → task_count p ≤ s.claimed + 1) → (b ≡ true → task_count p ≤ s.claimed + 1) → IsTrue (a || b) → task_count p ≤ s.claimed + 1
    by_or true b h k y = h y
    by_or false true h k y = k refl
    by_or false false h k y = absurd (false≢true y)

  -- what one desk gives the new one has
  claims_split : (s : ArrivalState) (i k : ℕ) (v : View) → ClaimsFit p s → get_elem? s.desks i ≡ some v → k ≤ v.left → ClaimsFit p (record s { desks = set s.desks i (after_split v k) ++ split_off k ∷ [] })
  claims_split s i k v f here room = let w : View = after_split v k in let u : View = split_off k in let vs : List View = set s.desks i w in record {
    word = let a = sum_by_set (λ (y : View). y.drawn) s.desks i v w here in let b = sum_by_push (λ (y : View). y.drawn) vs u in let c = f.word in omega arith;
    whole = let a = sum_by_set (λ (y : View). y.left + y.drawn) s.desks i v w here in let b = sum_by_push (λ (y : View). y.left + y.drawn) vs u in let c = f.whole in omega arith;
    ended = each_snoc (Ended s.claimed) vs u (each_set (Ended s.claimed) s.desks i w f.ended (f.ended i v here)) (λ y. absurd (false≢true y));
    idle = each_snoc Idle vs u (each_set Idle s.desks i w f.idle (f.idle i v here)) (λ _. refl);
  }

  -- one desk has what two had
  claims_join : (s : ArrivalState) (i j : ℕ) (v w : View) → ClaimsFit p s → get_elem? s.desks i ≡ some v → get_elem? s.desks j ≡ some w → j ≢ i → w.hand ≡ [] → ClaimsFit p (record s { desks = set (set s.desks i (after_join v w)) j spent_view })
  claims_join s i j v w f here there apart bare = let u : View = after_join v w in let vs : List View = set s.desks i u in let there' : get_elem? vs j ≡ some w = set_else s.desks i j u apart ∙ there in record {
    word = let a = sum_by_set (λ (y : View). y.drawn) s.desks i v u here in let b = sum_by_set (λ (y : View). y.drawn) vs j w spent_view there' in let c = f.word in omega arith;
    whole = let a = sum_by_set (λ (y : View). y.left + y.drawn) s.desks i v u here in let b = sum_by_set (λ (y : View). y.left + y.drawn) vs j w spent_view there' in let c = f.whole in omega arith;
    ended = each_set (Ended s.claimed) vs j spent_view (each_set (Ended s.claimed) s.desks i u f.ended (by_or s v.ended w.ended (f.ended i v here) (f.ended j w there))) (λ y. absurd (false≢true y));
    idle = each_set Idle vs j spent_view (each_set Idle s.desks i u f.idle (λ z. f.idle i v here (omega arith))) (λ _. refl);
  } where
    by_or : (s : ArrivalState) (a b : Bool) → (IsTrue a → task_count p ≤ s.claimed) → (IsTrue b → task_count p ≤ s.claimed) → IsTrue (a || b) → task_count p ≤ s.claimed
    by_or s true b h k y = h refl
    by_or s false b h k y = k y

  -- every move keeps the claims fit
  pub claims_move : (s : ArrivalState) (m : Move) → ClaimsFit p s → ClaimsFit p (move p s m)
  claims_move s (claim i) f = desk_keeps (ClaimsFit p) s i _ _ f (λ v e m. claims_drawn s i v f e (leb-true _ _ m))
  claims_move s (take_task i k) f = item_keeps (ClaimsFit p) s i _ _ _ f (λ v e x found _. item_same s _ i v _ x _ f e found refl refl)
  claims_move s (arrive i k) f = item_keeps (ClaimsFit p) s i _ _ _ f (λ v e x found _. item_same s _ i v _ x _ f e found refl refl)
  claims_move s (put i q t l) f = item_keeps (ClaimsFit p) s i _ _ _ f (λ v e x found _. by_test (ClaimsFit p) (is_at_slot x) _ _ (λ _. item_same s _ i v _ x _ f e found refl refl) (λ _. item_same s _ i v _ x _ f e found refl refl))
  claims_move s (count i q t) f = item_keeps (ClaimsFit p) s i _ _ _ f (λ v e x found _. item_same s _ i v _ x _ f e found refl refl)
  claims_move s (take_result i q t) f = item_keeps (ClaimsFit p) s i _ _ _ f (λ v e x found _. by_label (ClaimsFit p) s _ _ f (λ l _. item_same s _ i v _ x _ f e found refl refl))
  claims_move s (put_merged i q b l) f = item_keeps (ClaimsFit p) s i _ _ _ f (λ v e x found _. by_test (ClaimsFit p) (is_at_slot x) _ _ (λ _. item_same s _ i v _ x _ f e found refl refl) (λ _. item_same s _ i v _ x _ f e found refl refl))
  claims_move s (split i k) f = desk_keeps (ClaimsFit p) s i _ _ f (λ v e m. claims_split s i k v f e (leb-true _ _ m))
  claims_move s (join i j) f = desk_keeps (ClaimsFit p) s i _ _ f (λ v e m. desk_keeps (ClaimsFit p) s j _ _ f (λ w d z. claims_join s i j v w f e d (apart_from i j m) (bare w.hand z)))
  claims_move s (stop i k) f = item_keeps (ClaimsFit p) s i _ _ _ f (λ v e x found _. item_same s _ i v _ x _ f e found refl refl)
  claims_move s (stopped i q) f = desk_keeps (ClaimsFit p) s i _ _ f (λ v e _. claims_same s _ i v _ f e refl refl refl refl refl (f.idle i v e))
  claims_move s (close i q b) f = desk_keeps (ClaimsFit p) s i _ _ f (λ v e m. by_label (ClaimsFit p) s _ _ f (λ l o. claims_same s _ i v _ f e refl refl refl refl refl (λ z. absurd (drawn v m z))))
    where
      drawn : (v : View) → may_close p q b v ≡ true → v.drawn ≡ 0 → ⊥
      drawn v m z = let d = (close_guard p q b v m).drawn in absurd (omega arith)

  -- at the opening one desk has all claims
  pub claims_opened : ClaimsFit p (opened p)
  claims_opened = record {
    word = refl;
    whole = refl;
    ended = only (Ended 0) (λ y. absurd (false≢true y));
    idle = only Idle (λ _. refl);
  } where
    only : (F : View → Type 0) → F first_view → (i : ℕ) (v : View) → get_elem? (first_view ∷ []) i ≡ some v → F v
    only F h zero v e = subst F (some-injective first_view v e) h
    only F h (suc i) v e = absurd (some-ne-none v (sym e))
