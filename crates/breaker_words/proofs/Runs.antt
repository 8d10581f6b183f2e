-- Every list of moves leaves a sound state.
use Rattle.std.proofs.Common.{◌≡◌, ◌≢◌, ℕ, zero, suc, ◌+◌, ◌<◌, ◌≤◌, inl, inr, max, true, cond, leb, fold, List, [], ◌∷◌, ◌++◌, set, sym, refl, ap, ◌∙◌, subst, ⊎_elim, arith, lit≤}
use Rattle.std.proofs.lemmas.Bool.{and_parts, and_from, leb-true, le-leb, eqb-true}
use Rattle.std.proofs.lemmas.Bool.Decides.{nat_tests}
use mathlib.Core.Option.{some, some-injective, some-ne-none}
use lib.ListN.{get_elem?}
use Rattle.agg_model.specs.declared.breaker.Limits.{Limits}
use Rattle.agg_model.specs.declared.breaker.Which.{Which}
use Rattle.agg_model.specs.declared.breaker.Which.TheVariants.{Request, Fielddata, Inflight, Parent}
use Rattle.breaker_words.specs.declared.trial.Trial.{Trial}
use Rattle.breaker_words.specs.declared.trial.Trial.TheVariants.{Rest}
use Rattle.breaker_words.specs.declared.view.View.{View}
use Rattle.std.specs.List.{sum_by}
use Rattle.agg_model.specs.Breakers.{which_of}
use Rattle.breaker_words.specs.Accounts.{hold_in, account, empty_accounts}
use Rattle.breaker_words.specs.Views.{hold_of, most_of, seen_of, view_of, first_view, spent_view}
use Rattle.breaker_words.specs.Trials.{standing_of, in_force_of, child_standing, child_only, HasAmount}
use Rattle.breaker_words.specs.AfterStep.{after_set_ceiling, after_split, split_off, after_join}
use Rattle.breaker_words.specs.Moves.{BreakerState, Move, look, set_ceiling, split, join, try_child, take_back_child, try_parent, take_back_parent, give_parent, give_child, move, run, opened, may_set_ceiling, may_split, may_join, has_room}
use Rattle.breaker_words.specs.Soundness.{FitsCeiling, IsConsistent, IsSound}
use Rattle.atomic_table.proofs.Lists.{at_set, set_else}
use Rattle.list_laws.proofs.PlaceSums.{sum_by_pair, sum_by_set, sum_by_has, each_set, each_snoc}
use Rattle.std.proofs.lemmas.List.Sums.{sum_by_push}
use Rattle.breaker_words.proofs.Moves.{amount_at_zero, standing_as, inforce_as, move_pass_keeps}
use Rattle.list_laws.proofs.PlaceTests.{by_test}
use Rattle.breaker_words.proofs.OnePass.{At, own_at, rests}
use Rattle.breaker_words.proofs.Steps.{sound_tried_child, sound_taken_child, sound_tried_parent, sound_taken_parent, sound_given_parent, sound_given_child}

-- each number of a view with empty accounts is 0
pub empty_all : (x : Which) → (hold_in empty_accounts x ≡ 0) × ((account empty_accounts x).most ≡ 0) × ((account empty_accounts x).seen ≡ 0)
empty_all Request = (refl, refl, refl)
empty_all Fielddata = (refl, refl, refl)
empty_all Inflight = (refl, refl, refl)
empty_all Parent = (refl, refl, refl)

pub own_empty : (l : Limits) (k t : ℕ) → IsConsistent (view_of l k t)
own_empty l k t = record {
  asked = tt;
  room = omega arith;
  even = refl;
  held = omega arith;
  low = λ x. let e = empty_all x in let z = amount_at_zero Request x in let z' = amount_at_zero Parent x in omega arith;
  high = λ x. let e = empty_all x in omega arith;
}

pub joined_all : (v w : View) (x : Which) → let u = after_join v w in (hold_of u x ≡ hold_of v x + hold_of w x) × (most_of u x ≡ most_of v x + most_of w x) × (seen_of u x ≡ max (cond (leb 1 v.cap) (seen_of v x) 0) (cond (leb 1 w.cap) (seen_of w x) 0))
joined_all v w Request = (refl, refl, refl)
joined_all v w Fielddata = (refl, refl, refl)
joined_all v w Inflight = (refl, refl, refl)
joined_all v w Parent = (refl, refl, refl)

pub marked_all : (v : View) (t : ℕ) (x : Which) → let u = after_set_ceiling v t in (hold_of u x ≡ hold_of v x) × (most_of u x ≡ hold_of v x) × (seen_of u x ≡ hold_of v x)
marked_all v t Request = (refl, refl, refl)
marked_all v t Fielddata = (refl, refl, refl)
marked_all v t Inflight = (refl, refl, refl)
marked_all v t Parent = (refl, refl, refl)

pub hold_parent : (v : View) → At v Rest → (x : Which) → hold_of v x ≤ v.accounts.parent.hold
hold_parent v f Request = let e = f.even in omega arith
hold_parent v f Fielddata = let e = f.even in omega arith
hold_parent v f Inflight = let e = f.even in omega arith
hold_parent v f Parent = omega arith

pub own_ceiled : (v : View) (t : ℕ) → IsConsistent v → v.trial ≡ Rest → v.accounts.parent.hold ≤ t → IsConsistent (after_set_ceiling v t)
own_ceiled v t o rest room = let f = own_at v Rest rest o in let even = f.even in let u : View = after_set_ceiling v t in let p : child_standing v.trial v.amount ≡ 0 = ap (λ (y : Trial). child_standing y v.amount) rest in let q : child_only v.trial v.amount ≡ 0 = ap (λ (y : Trial). child_only y v.amount) rest in record {
  asked = subst (λ (y : Trial). HasAmount y v.amount) (sym rest) tt;
  room = omega arith;
  even = omega arith;
  held = omega arith;
  low = λ x. let e = standing_as u Rest rest x in let m = marked_all v t x in let z = amount_at_zero (which_of v.child) x in let z' = amount_at_zero Parent x in omega arith;
  high = λ x. let m = marked_all v t x in let g = hold_parent v f x in omega arith;
}

pub own_cut : (v : View) (k : ℕ) → IsConsistent v → v.trial ≡ Rest → ((x : Which) → most_of v x + k ≤ v.cap) → IsConsistent (after_split v k)
own_cut v k o rest room = let f = own_at v Rest rest o in let even = f.even in let p : child_standing v.trial v.amount ≡ 0 = ap (λ (y : Trial). child_standing y v.amount) rest in let r = room Parent in let m = f.low Parent in let z = amount_at_zero Parent Parent in record {
  asked = o.asked;
  room = omega arith;
  even = o.even;
  held = o.held;
  low = o.low;
  high = λ x. let g = room x in omega arith;
}

pub own_joined : (v w : View) → IsConsistent v → IsConsistent w → v.trial ≡ Rest → w.trial ≡ Rest → IsConsistent (after_join v w)
own_joined v w o o' rest rest' = let f = own_at v Rest rest o in let f' = own_at w Rest rest' o' in let e = f.even in let e' = f'.even in let r = f.room in let r' = f'.room in record {
  asked = tt;
  room = omega arith;
  even = omega arith;
  held = omega arith;
  low = λ x. let j = joined_all v w x in let g = f.low x in let g' = f'.low x in let z = amount_at_zero (which_of v.child) x in let z' = amount_at_zero Parent x in omega arith;
  high = λ x. let j = joined_all v w x in let g = o.high x in let g' = o'.high x in omega arith;
}

pick : (P : Which → Type 0) → P Request → P Fielddata → P Inflight → P Parent → (x : Which) → P x
pick P a b c d Request = a
pick P a b c d Fielddata = b
pick P a b c d Inflight = c
pick P a b c d Parent = d

pub splits_tell : (k : ℕ) (v : View) → has_room k v ≡ true → (x : Which) → most_of v x + k ≤ v.cap
splits_tell k v m x = let p = and_parts _ _ m in let q = and_parts _ _ p.0 in let r = and_parts _ _ q.0 in pick (λ y. most_of v y + k ≤ v.cap) (leb-true _ _ r.0) (leb-true _ _ r.1) (leb-true _ _ q.1) (leb-true _ _ p.1) x

pub splits_is : (k : ℕ) (v : View) → ((x : Which) → most_of v x + k ≤ v.cap) → has_room k v ≡ true
splits_is k v f = and_from _ _ (and_from _ _ (and_from _ _ (le-leb _ _ (f Request)) (le-leb _ _ (f Fielddata))) (le-leb _ _ (f Inflight))) (le-leb _ _ (f Parent))

module _ (l : Limits) (s : BreakerState) (h : IsSound l s) (i : ℕ) (v : View) (here : get_elem? s.passes i ≡ some v) where
  sound_ceiled : (t : ℕ) → may_set_ceiling t v ≡ true → IsSound l (record { word_of = s.word_of; ceiling = t; passes = set s.passes i (after_set_ceiling v t) })
  sound_ceiled t may = let p = and_parts _ _ may in let q = and_parts _ _ p.0 in let r = and_parts _ _ q.0 in let o = and_parts _ _ r.0 in let n = and_parts _ _ o.0 in
      let rest = rests v.trial n.0 in let total = leb-true _ _ n.1 in let whole = eqb-true _ _ o.1 in let pos = leb-true _ _ r.1 in let room = leb-true _ _ q.1 in let high = leb-true _ _ p.1 in
      let f = h.each i v here in let all = f.kept (omega arith) in let u : View = after_set_ceiling v t in let us = set s.passes i u in
      let F : View → Type 0 = λ z. 0 < z.cap → (x : Which) → seen_of z x ≤ sum_by (λ y. most_of y x) us in
      let lone : (j : ℕ) (z : View) → j ≢ i → get_elem? s.passes j ≡ some z → z.cap ≡ 0 = λ j z m e. let two = sum_by_pair (λ (y : View). y.cap) s.passes i j v z m here e in let d = h.caps in omega arith in
      record {
        level = λ x. let e = sum_by_set (λ z. standing_of z x) s.passes i v u here in let m = marked_all v t x in let d = h.level x in omega arith;
        within = λ x. let e = sum_by_set (λ z. in_force_of z x) s.passes i v u here in let m = marked_all v t x in let d = h.within x in omega arith;
        caps = let e = sum_by_set (λ (z : View). z.cap) s.passes i v u here in let d = h.caps in omega arith;
        low = pos;
        high = high;
        each = λ j z e. ⊎_elim (λ (m : (j ≡ i) × (u ≡ z)). subst (λ y. FitsCeiling t y) m.1 record { living = inl pos; kept = λ _. refl; own = own_ceiled v t f.own rest room })
            (λ (m : (j ≢ i) × (get_elem? s.passes j ≡ some z)). let g = h.each j z m.1 in let none_left = lone j z m.0 m.1 in
            record { living = g.living; kept = λ c. absurd (omega arith); own = g.own }) (at_set s.passes i j u z e);
        told = λ j z e. ⊎_elim (λ (m : (j ≡ i) × (u ≡ z)). subst F m.1 (λ c x. let k = marked_all v t x in let b = sum_by_has (λ y. most_of y x) us j z e in let sm : most_of u x ≡ most_of z x = ap (λ y. most_of y x) m.1 in omega arith))
            (λ (m : (j ≢ i) × (get_elem? s.passes j ≡ some z)). λ c x. let none_left = lone j z m.0 m.1 in absurd (omega arith)) (at_set s.passes i j u z e);
      }

  sound_split : (k : ℕ) → may_split k v ≡ true → IsSound l (record { word_of = s.word_of; ceiling = s.ceiling; passes = set s.passes i (after_split v k) ++ split_off v k ∷ [] })
  sound_split k may = let p = and_parts _ _ may in let q = and_parts _ _ p.0 in let rest = rests v.trial q.0 in let total = leb-true _ _ q.1 in let room = splits_tell k v p.1 in let rp = room Parent in
      let f = h.each i v here in let u : View = after_split v k in let w : View = split_off v k in let vs = set s.passes i u in let us = vs ++ w ∷ [] in
      let mosts : (x : Which) → sum_by (λ y. most_of y x) us ≡ sum_by (λ y. most_of y x) s.passes = λ x. let a = sum_by_set (λ z. most_of z x) s.passes i v u here in let c = sum_by_push (λ z. most_of z x) vs w in let z = empty_all x in omega arith in
      let F : View → Type 0 = λ z. 0 < z.cap → (x : Which) → seen_of z x ≤ sum_by (λ y. most_of y x) us in
      record {
        level = λ x. let e = sum_by_set (λ z. standing_of z x) s.passes i v u here in let c = sum_by_push (λ z. standing_of z x) vs w in let y = standing_as w Rest refl x in let z = empty_all x in let z' = amount_at_zero Request x in let z'' = amount_at_zero Parent x in let d = h.level x in omega arith;
        within = λ x. let e = sum_by_set (λ z. in_force_of z x) s.passes i v u here in let c = sum_by_push (λ z. in_force_of z x) vs w in let y = inforce_as w Rest refl x in let z = empty_all x in let z' = amount_at_zero Request x in let d = h.within x in omega arith;
        caps = let e = sum_by_set (λ (z : View). z.cap) s.passes i v u here in let c = sum_by_push (λ (z : View). z.cap) vs w in let d = h.caps in omega arith;
        low = h.low;
        high = h.high;
        each = each_snoc (FitsCeiling s.ceiling) vs w
            (each_set (FitsCeiling s.ceiling) s.passes i u h.each record { living = inl total; kept = λ c. f.kept (omega arith); own = own_cut v k f.own rest room })
            record { living = inl total; kept = λ c. f.kept (omega arith); own = own_empty v.limits k v.total };
        told = each_snoc F vs w (each_set F s.passes i u (λ j z e c x. let g = h.told j z e c x in let m = mosts x in omega arith) (λ c x. let g = h.told i v here (omega arith) x in let m = mosts x in omega arith)) (λ c x. let z = empty_all x in omega arith);
      }

  sound_joined : (j : ℕ) (w : View) → get_elem? s.passes j ≡ some w → j ≢ i → may_join v ≡ true → may_join w ≡ true
      → IsSound l (record { word_of = s.word_of; ceiling = s.ceiling; passes = set (set s.passes i (after_join v w)) j spent_view })
  sound_joined j w there apart may may' = let p = and_parts _ _ may in let p' = and_parts _ _ may' in let rest = rests v.trial p.0 in let rest' = rests w.trial p'.0 in let total = leb-true _ _ p.1 in let total' = leb-true _ _ p'.1 in
      let f = h.each i v here in let f' = h.each j w there in let u : View = after_join v w in let vs = set s.passes i u in let us = set vs j spent_view in let there' : get_elem? vs j ≡ some w = set_else s.passes i j u apart ∙ there in
      let mosts : (x : Which) → sum_by (λ y. most_of y x) us ≡ sum_by (λ y. most_of y x) s.passes = λ x. let a = sum_by_set (λ z. most_of z x) s.passes i v u here in let c = sum_by_set (λ z. most_of z x) vs j w spent_view there' in let z = empty_all x in let k = joined_all v w x in omega arith in
      let F : View → Type 0 = λ z. 0 < z.cap → (x : Which) → seen_of z x ≤ sum_by (λ y. most_of y x) us in
      record {
        level = λ x. let e = sum_by_set (λ z. standing_of z x) s.passes i v u here in let c = sum_by_set (λ z. standing_of z x) vs j w spent_view there' in let y = standing_as u Rest refl x in let y' = standing_as v Rest rest x in let y'' = standing_as w Rest rest' x in
            let k = joined_all v w x in let o = empty_all x in let d = h.level x in let z = amount_at_zero (which_of v.child) x in let z' = amount_at_zero (which_of w.child) x in let z'' = amount_at_zero Request x in let zp = amount_at_zero Parent x in omega arith;
        within = λ x. let e = sum_by_set (λ z. in_force_of z x) s.passes i v u here in let c = sum_by_set (λ z. in_force_of z x) vs j w spent_view there' in let y = inforce_as u Rest refl x in let y' = inforce_as v Rest rest x in let y'' = inforce_as w Rest rest' x in
            let k = joined_all v w x in let o = empty_all x in let d = h.within x in let z = amount_at_zero (which_of v.child) x in let z' = amount_at_zero (which_of w.child) x in let z'' = amount_at_zero Request x in omega arith;
        caps = let e = sum_by_set (λ (z : View). z.cap) s.passes i v u here in let c = sum_by_set (λ (z : View). z.cap) vs j w spent_view there' in let d = h.caps in omega arith;
        low = h.low;
        high = h.high;
        each = each_set (FitsCeiling s.ceiling) vs j spent_view
            (each_set (FitsCeiling s.ceiling) s.passes i u h.each record { living = inl (grind (arith, nat_tests)); kept = λ c. grind (arith, nat_tests, f.kept, f'.kept); own = own_joined v w f.own f'.own rest rest' })
            record { living = inr refl; kept = λ c. absurd (omega arith); own = own_empty spent_view.limits 0 0 };
        told = each_set F vs j spent_view (each_set F s.passes i u (λ a z e c x. let g = h.told a z e c x in let m = mosts x in omega arith)
            (λ c x. let m = mosts x in let k = joined_all v w x in let g = h.told i v here in let g' = h.told j w there in
            let left : cond (leb 1 v.cap) (seen_of v x) 0 ≤ sum_by (λ y. most_of y x) s.passes = by_test (λ n. n ≤ sum_by (λ y. most_of y x) s.passes) (leb 1 v.cap) (seen_of v x) 0 (λ t. g (leb-true _ _ t) x) (λ _. omega arith) in
            let right : cond (leb 1 w.cap) (seen_of w x) 0 ≤ sum_by (λ y. most_of y x) s.passes = by_test (λ n. n ≤ sum_by (λ y. most_of y x) s.passes) (leb 1 w.cap) (seen_of w x) 0 (λ t. g' (leb-true _ _ t) x) (λ _. omega arith) in omega arith))
            (λ c x. absurd (omega arith));
      }

pub sound_move : (l : Limits) (s : BreakerState) (m : Move) → IsSound l s → IsSound l (move l s m)
sound_move l s (look i w) h = h
sound_move l s (set_ceiling i t) h = move_pass_keeps (IsSound l) s i _ _ h (λ v e m. sound_ceiled l s h i v e t m)
sound_move l s (split i k) h = move_pass_keeps (IsSound l) s i _ _ h (λ v e m. sound_split l s h i v e k m)
sound_move l s (join i j) h = move_pass_keeps (IsSound l) s i _ _ h (λ v e m. let p = and_parts _ _ m in move_pass_keeps (IsSound l) s j _ _ h (λ w d n. sound_joined l s h i v e j w d (λ z. grind (arith, nat_tests)) p.0 n))
sound_move l s (try_child i c a) h = move_pass_keeps (IsSound l) s i _ _ h (λ v e m. sound_tried_child l s h i v e c a m)
sound_move l s (take_back_child i) h = move_pass_keeps (IsSound l) s i _ _ h (λ v e m. sound_taken_child l s h i v e m)
sound_move l s (try_parent i) h = move_pass_keeps (IsSound l) s i _ _ h (λ v e m. sound_tried_parent l s h i v e m)
sound_move l s (take_back_parent i) h = move_pass_keeps (IsSound l) s i _ _ h (λ v e m. sound_taken_parent l s h i v e m)
sound_move l s (give_parent i c a) h = move_pass_keeps (IsSound l) s i _ _ h (λ v e m. sound_given_parent l s h i v e c a m)
sound_move l s (give_child i) h = move_pass_keeps (IsSound l) s i _ _ h (λ v e m. sound_given_child l s h i v e m)

sound_fold : (l : Limits) (ms : List Move) (s : BreakerState) → IsSound l s → IsSound l (fold (move l) s ms)
sound_fold l [] s h = h
sound_fold l (m ∷ ms) s h = sound_fold l ms (move l s m) (sound_move l s m h)

pub first_of : (F : View → Type 0) (u : View) → F u → (i : ℕ) (v : View) → get_elem? (u ∷ []) i ≡ some v → F v
first_of F u h zero v e = subst F (some-injective _ v e) h
first_of F u h (suc i) v e = absurd (some-ne-none v (sym e))

sound_opened : (l : Limits) → IsSound l (opened l)
sound_opened l = record {
  level = λ x. let y = standing_as (first_view l) Rest refl x in let z = empty_all x in let z' = amount_at_zero Request x in let z'' = amount_at_zero Parent x in omega arith;
  within = λ x. let y = inforce_as (first_view l) Rest refl x in let z = empty_all x in let z' = amount_at_zero Request x in omega arith;
  caps = refl;
  low = omega arith;
  high = lit≤ tt;
  each = first_of (FitsCeiling 1) (first_view l) record { living = inl (omega arith); kept = λ _. refl; own = own_empty l 1 1 };
  told = first_of (λ v. 0 < v.cap → (x : Which) → seen_of v x ≤ sum_by (λ u. most_of u x) (first_view l ∷ [])) (first_view l) (λ c x. let z = empty_all x in omega arith);
}

-- every list of moves leaves a sound state
pub sound_run : (l : Limits) (ms : List Move) → IsSound l (run l ms)
sound_run l ms = sound_fold l ms (opened l) (sound_opened l)
