-- Each atomic step of a pass makes of the words and the views what one move makes of the state.
use Rattle.std.proofs.Common.{◌≡◌, ℕ, zero, suc, ◌+◌, ◌-◌, ◌<◌, ◌≤◌, true, ◌&&◌, not, eqb, List, [], ◌∷◌, ◌++◌, set, sym, refl, ap, ◌∙◌, subst, ⊎_elim, arith, get_or, ◌%◌, add-zero}
use Rattle.std.proofs.lemmas.Bool.{and_from, le-leb, eq-eqb, ne_eqb}
use mathlib.Core.Option.{Option, some}
use lib.ListN.{get_elem?}
use Rattle.agg_model.specs.declared.breaker.Limits.{Limits}
use Rattle.agg_model.specs.declared.breaker.Child.{Child}
use Rattle.agg_model.specs.declared.breaker.Child.TheVariants as child
use Rattle.agg_model.specs.declared.breaker.Which.{Which}
use Rattle.agg_model.specs.declared.breaker.Which.TheVariants.{Request, Fielddata, Inflight, Parent}
use Rattle.breaker_words.specs.declared.trial.Trial.TheVariants.{Rest, ChildRefused, ChildGranted, ParentRefused, ChildReturning, ParentGiven}
use Rattle.breaker_words.specs.declared.view.View.{View}
use Rattle.breaker_words.specs.Breakers.{amount_at, place, words_of}
use Rattle.agg_model.specs.Breakers.{which_of}
use Rattle.breaker_words.specs.Views.{hold_of, most_of, seen_of, spent_view}
use Rattle.breaker_words.specs.Trials.{standing_of, is_rest, is_child_granted, is_returning, is_parent_refused, is_given}
use Rattle.breaker_words.specs.AfterStep.{after_try_child, after_take_back_child, after_try_parent, after_take_back_parent, after_give_parent, after_give_child, after_set_ceiling, after_split, split_off, after_join}
use Rattle.breaker_words.specs.Moves.{BreakerState, Move, look, set_ceiling, split, join, try_child, take_back_child, try_parent, take_back_parent, give_parent, give_child, move, with_word_raised, with_word_lowered, move_pass, may_try_child, may_give_parent, may_set_ceiling, may_split, may_join}
use Rattle.breaker_words.specs.Soundness.{IsConsistent, IsSound, IsNear}
use Rattle.atomic_table.specs.Table.{keeps, stepped}
use Rattle.atomic_table.proofs.Lists.{set_again, set_else}
use Rattle.breaker_words.specs.Atomic.{Running, IsStateOf}
use Rattle.list_laws.proofs.PlaceSums.{sum_by_has, sum_by_rest, sum_by_below}
use Rattle.breaker_words.proofs.Moves.{amount_at_zero, amount_at_same, hold_child, move_pass_is, standing_as}
use Rattle.breaker_words.proofs.OnePass.{own_at, returns}
use Rattle.breaker_words.proofs.Steps.{may_try_child_is}
use Rattle.breaker_words.proofs.Runs.{splits_is}

child_at : ℕ → Child
child_at zero = child.Request
child_at (suc zero) = child.Fielddata
child_at (suc (suc n)) = child.Inflight

child_there : (c : Child) → child_at (place (which_of c)) ≡ c
unfolding child_at
child_there child.Request = refl
child_there child.Fielddata = refl
child_there child.Inflight = refl

pub same_child : (c d : Child) → place (which_of c) ≡ place (which_of d) → c ≡ d
same_child c d q = sym (child_there c) ∙ (ap child_at q ∙ child_there d)

word_there : (f : Which → ℕ) (t : ℕ) (w : Which) → get_or (words_of f t) (place w) 0 ≡ f w
word_there f t Request = refl
word_there f t Fielddata = refl
word_there f t Inflight = refl
word_there f t Parent = refl

put_up : (f : Which → ℕ) (t a : ℕ) (w : Which) → set (words_of f t) (place w) (f w + a) ≡ words_of (λ x. f x + amount_at w a x) t
put_up f t a Request = simp add-zero
put_up f t a Fielddata = simp add-zero
put_up f t a Inflight = simp add-zero
put_up f t a Parent = simp add-zero

sub_zero : (n : ℕ) → n - 0 ≡ n
sub_zero n = omega arith

put_down : (f : Which → ℕ) (t a : ℕ) (w : Which) → set (words_of f t) (place w) (f w - a) ≡ words_of (λ x. f x - amount_at w a x) t
put_down f t a Request = simp sub_zero
put_down f t a Fielddata = simp sub_zero
put_down f t a Inflight = simp sub_zero
put_down f t a Parent = simp sub_zero

-- a word written as it was
set_get : (xs : List ℕ) (p : ℕ) → set xs p (get_or xs p 0) ≡ xs
set_get [] p = refl
set_get (x ∷ xs) zero = refl
set_get (x ∷ xs) (suc p) = ap (λ ys. x ∷ ys) (set_get xs p)

-- the words and the views are those of the state that a move makes
state_at : (l : Limits) (k : BreakerState) (m : Move) (t : BreakerState) → move l k m ≡ t → (ws : List ℕ) (hs : List (Option (Unit {0}))) (vs : List View)
    → ws ≡ words_of t.word_of t.ceiling → vs ≡ t.passes → IsStateOf (move l k m) (record { words = ws; homes = hs; views = vs })
state_at l k m t is ws hs vs e d = (e ∙ ap (λ (z : BreakerState). words_of z.word_of z.ceiling) (sym is), d ∙ ap (λ (z : BreakerState). z.passes) (sym is))

module _ (l : Limits) (k : BreakerState) (sound : IsSound l k) (s : Running) (r : IsStateOf k s) (id : ℕ) (v : View) (at_home : get_elem? s.views id ≡ some v) where
  here : get_elem? k.passes id ≡ some v
  here = ap (λ vs. get_elem? vs id) (sym r.1) ∙ at_home

  word_is : (w : Which) → get_or s.words (place w) 0 ≡ k.word_of w
  word_is w = ap (λ ws. get_or ws (place w) 0) r.0 ∙ word_there k.word_of k.ceiling w

  -- what a word is, from what the pass knows
  near : (w : Which) → IsNear v w (k.word_of w)
  near w = let a = sum_by_rest (λ u. standing_of u w) (λ (u : View). u.cap) k.passes (λ j u e. let o = (sound.each j u e).own in let x = o.low w in let y = o.high w in omega arith) id v here in let c = sum_by_has (λ u. standing_of u w) k.passes id v here in
      let b = sound.level w in let d = sound.caps in let f = (sound.each id v here).kept in (omega arith, λ p. let g = f p in omega arith)

  -- no word is ever near its end
  pub word_small : (w : Which) → get_or s.words (place w) 0 < 18446744073709551616
  word_small w = let a = sum_by_below (λ u. standing_of u w) (λ (u : View). u.cap) k.passes (λ j u e. let o = (sound.each j u e).own in let x = o.low w in let y = o.high w in omega arith) in
      let b = sound.level w in let d = sound.caps in let top = sound.high in let e = word_is w in omega arith

  pub raise_step : (m : Move) (w : Which) (a : ℕ) (f : ℕ → View) → move l k m ≡ with_word_raised k id w a (f (k.word_of w + a)) → 0 < v.cap → standing_of v w + a ≤ v.cap →
      let n : ℕ = get_or s.words (place w) 0 in
      IsStateOf (move l k m) (stepped s (place w) ((n + a) % 18446744073709551616) id [] (f (n + a)) keeps) × IsNear v w n
  raise_step m w a f is some_cap room = let n : ℕ = get_or s.words (place w) 0 in let e = word_is w in let q = near w in let q' = q.1 some_cap in let g = (sound.each id v here).kept some_cap in let top = sound.high in
      let small : (n + a) % 18446744073709551616 ≡ k.word_of w + a = omega arith in (
        state_at l k m _ is _ s.homes _ ((λ i. set (r.0 i) (place w) (small i)) ∙ put_up k.word_of k.ceiling a w) (λ i. set (r.1 i) id (f (e i + a))),
        (omega arith, λ p. let h = q.1 p in omega arith),
      )

  pub lower_step : (m : Move) (w : Which) (a : ℕ) (u : View) → move l k m ≡ with_word_lowered k id w a u → a ≤ standing_of v w →
      let n : ℕ = get_or s.words (place w) 0 in n < 18446744073709551616 → IsStateOf (move l k m) (stepped s (place w) ((n + (18446744073709551616 - a)) % 18446744073709551616) id [] u keeps)
  lower_step m w a u is has fits = let n : ℕ = get_or s.words (place w) 0 in let e = word_is w in let q = (near w).0 in
      let small : (n + (18446744073709551616 - a)) % 18446744073709551616 ≡ k.word_of w - a = omega arith in
      state_at l k m _ is _ s.homes _ ((λ i. set (r.0 i) (place w) (small i)) ∙ put_down k.word_of k.ceiling a w) (λ i. set (r.1 i) id u)

  pub own_now : IsConsistent v
  own_now = (sound.each id v here).own

  pub try_step : (c : Child) (a : ℕ) → v.trial ≡ Rest → 1 ≤ a → v.accounts.parent.hold + a ≤ v.cap →
      let w = which_of c in let n : ℕ = get_or s.words (place w) 0 in
      IsStateOf (move l k (try_child id c a)) (stepped s (place w) ((n + a) % 18446744073709551616) id [] (after_try_child l v c a (n + a)) keeps) × IsNear v w n
  try_step c a rest pos room = let w = which_of c in let o = own_at v Rest rest own_now in let even = o.even in let hc = hold_child c v.accounts in let st = standing_as v Rest rest w in let z = amount_at_zero (which_of v.child) w in let z' = amount_at_zero Parent w in
      raise_step (try_child id c a) w a (λ n. after_try_child l v c a n)
      (move_pass_is k id (may_try_child a) (λ x. with_word_raised k id w a (after_try_child l x c a (k.word_of w + a))) v here (may_try_child_is a v rest pos room)) (omega arith) (omega arith)

  pub parent_step : v.trial ≡ ChildGranted →
      let n : ℕ = get_or s.words 3 0 in let a : ℕ = v.amount in
      IsStateOf (move l k (try_parent id)) (stepped s 3 ((n + a) % 18446744073709551616) id [] (after_try_parent l v (n + a)) keeps) × IsNear v Parent n
  parent_step is = let a : ℕ = v.amount in let o = own_at v ChildGranted is own_now in let even = o.even in let room = o.room in let pos : 1 ≤ a = o.asked in let st = standing_as v ChildGranted is Parent in let z = Rattle.breaker_words.proofs.OnePass.child_parent v.child a in
      raise_step (try_parent id) Parent a (λ n. after_try_parent l v n)
      (move_pass_is k id (λ x. is_child_granted x.trial) (λ x. with_word_raised k id Parent x.amount (after_try_parent l x (k.word_of Parent + x.amount))) v here (ap is_child_granted is)) (omega arith) (omega arith)

  pub take_step : is_returning v.trial ≡ true →
      let w = which_of v.child in let a : ℕ = v.amount in let n : ℕ = get_or s.words (place w) 0 in n < 18446744073709551616 →
      IsStateOf (move l k (take_back_child id)) (stepped s (place w) ((n + (18446744073709551616 - a)) % 18446744073709551616) id [] (after_take_back_child v) keeps)
  take_step is fits = let w = which_of v.child in let a : ℕ = v.amount in let same = amount_at_same w a in
      let has : a ≤ standing_of v w = ⊎_elim (λ (e : v.trial ≡ ChildRefused). let st = standing_as v ChildRefused e w in omega arith) (λ (e : v.trial ≡ ChildReturning). let st = standing_as v ChildReturning e w in omega arith) (returns v.trial is) in
      lower_step (take_back_child id) w a (after_take_back_child v) (move_pass_is k id (λ x. is_returning x.trial) (λ x. with_word_lowered k id (which_of x.child) x.amount (after_take_back_child x)) v here is) has fits

  pub take_parent_step : v.trial ≡ ParentRefused → let a : ℕ = v.amount in let n : ℕ = get_or s.words 3 0 in n < 18446744073709551616 →
      IsStateOf (move l k (take_back_parent id)) (stepped s 3 ((n + (18446744073709551616 - a)) % 18446744073709551616) id [] (after_take_back_parent v) keeps)
  take_parent_step is fits = let a : ℕ = v.amount in let st = standing_as v ParentRefused is Parent in
      lower_step (take_back_parent id) Parent a (after_take_back_parent v) (move_pass_is k id (λ x. is_parent_refused x.trial) (λ x. with_word_lowered k id Parent x.amount (after_take_back_parent x)) v here (ap is_parent_refused is)) (omega arith) fits

  pub give_parent_step : (c : Child) (a : ℕ) → v.trial ≡ Rest → 1 ≤ a → a ≤ hold_of v (which_of c) → let n : ℕ = get_or s.words 3 0 in n < 18446744073709551616 →
      IsStateOf (move l k (give_parent id c a)) (stepped s 3 ((n + (18446744073709551616 - a)) % 18446744073709551616) id [] (after_give_parent v c a) keeps)
  give_parent_step c a rest pos has fits = let o = own_at v Rest rest own_now in let even = o.even in let hc = hold_child c v.accounts in let st = standing_as v Rest rest Parent in
      lower_step (give_parent id c a) Parent a (after_give_parent v c a) (move_pass_is k id (may_give_parent c a) (λ x. with_word_lowered k id Parent a (after_give_parent x c a)) v here (and_from _ _ (and_from _ _ (ap is_rest rest) (le-leb _ _ pos)) (le-leb _ _ has))) (omega arith) fits

  pub give_child_step : v.trial ≡ ParentGiven → let w = which_of v.child in let a : ℕ = v.amount in let n : ℕ = get_or s.words (place w) 0 in n < 18446744073709551616 →
      IsStateOf (move l k (give_child id)) (stepped s (place w) ((n + (18446744073709551616 - a)) % 18446744073709551616) id [] (after_give_child v) keeps)
  give_child_step is fits = let w = which_of v.child in let a : ℕ = v.amount in let o = own_at v ParentGiven is own_now in let held = o.held in let st = standing_as v ParentGiven is w in
      lower_step (give_child id) w a (after_give_child v) (move_pass_is k id (λ x. is_given x.trial) (λ x. with_word_lowered k id (which_of x.child) x.amount (after_give_child x)) v here (ap is_given is)) (omega arith) fits

  pub ceil_step : (t : ℕ) → v.trial ≡ Rest → 1 ≤ v.total → v.cap ≡ v.total → 1 ≤ t → v.accounts.parent.hold ≤ t → t ≤ 9223372036854775808 → IsStateOf (move l k (set_ceiling id t)) (stepped s 4 t id [] (after_set_ceiling v t) keeps)
  ceil_step t rest living whole pos room top =
      state_at l k (set_ceiling id t) (record { word_of = k.word_of; ceiling = t; passes = set k.passes id (after_set_ceiling v t) }) (move_pass_is k id (may_set_ceiling t) (λ x. record { word_of = k.word_of; ceiling = t; passes = set k.passes id (after_set_ceiling x t) }) v here
      (and_from _ _ (and_from _ _ (and_from _ _ (and_from _ _ (and_from _ _ (ap is_rest rest) (le-leb _ _ living)) (eq-eqb _ _ whole)) (le-leb _ _ pos)) (le-leb _ _ room)) (le-leb _ _ top))) _ s.homes _
      (λ i. set (r.0 i) 4 t) (λ i. set (r.1 i) id (after_set_ceiling v t))

  pub split_step : (z : ℕ) → v.trial ≡ Rest → 1 ≤ v.total → ((x : Which) → most_of v x + z ≤ v.cap) → IsStateOf (move l k (split id z)) (record { words = s.words; homes = s.homes; views = set s.views id (after_split v z) ++ split_off v z ∷ [] })
  split_step z rest living room =
      state_at l k (split id z) (record { word_of = k.word_of; ceiling = k.ceiling; passes = set k.passes id (after_split v z) ++ split_off v z ∷ [] })
      (move_pass_is k id (may_split z) (λ x. record { word_of = k.word_of; ceiling = k.ceiling; passes = set k.passes id (after_split x z) ++ split_off x z ∷ [] }) v here (and_from _ _ (and_from _ _ (ap is_rest rest) (le-leb _ _ living)) (splits_is z v room))) _ s.homes _
      r.0 (λ i. set (r.1 i) id (after_split v z) ++ split_off v z ∷ [])

  pub join_step : (j : ℕ) (w : View) → ¬ (j ≡ id) → get_elem? (set s.views id (after_join v w)) j ≡ some w → v.trial ≡ Rest → w.trial ≡ Rest → 1 ≤ v.total → 1 ≤ w.total
      → IsStateOf (move l k (join id j)) (record { words = s.words; homes = s.homes; views = set (set s.views id (after_join v w)) j spent_view })
  join_step j w apart there rest rest' living living' = let there' : get_elem? k.passes j ≡ some w = ap (λ vs. get_elem? vs j) (sym r.1) ∙ (sym (set_else s.views id j (after_join v w) apart) ∙ there) in
      let act : View → View → BreakerState = λ x y. record { word_of = k.word_of; ceiling = k.ceiling; passes = set (set k.passes id (after_join x y)) j spent_view } in
      state_at l k (join id j) (act v w)
      (move_pass_is k id (λ x. may_join x && not (eqb id j)) (λ x. move_pass k j may_join (act x)) v here
      (and_from _ _ (and_from _ _ (ap is_rest rest) (le-leb _ _ living)) (ap not (ne_eqb id j (λ e. apart (sym e)))))
      ∙ move_pass_is k j may_join (act v) w there' (and_from _ _ (ap is_rest rest') (le-leb _ _ living'))) _ s.homes _
      r.0 (λ i. set (set (r.1 i) id (after_join v w)) j spent_view)

  pub look_step : (p : ℕ) → let n : ℕ = get_or s.words p 0 in IsStateOf (move l k (look id Request)) (stepped s p n id [] v keeps) × (v.cap ≤ v.total) × ((x : Which) → p ≡ place x → IsNear v x n) × (v.cap ≡ v.total → 0 < v.cap → (x : Which) → seen_of v x ≤ most_of v x)
  look_step p = let n : ℕ = get_or s.words p 0 in let f = sound.each id v here in let e = sum_by_has (λ (u : View). u.cap) k.passes id v here in let d = sound.caps in let g : 0 < v.cap → v.total ≡ k.ceiling = f.kept in (
    state_at l k (look id Request) k refl _ s.homes _ (set_get s.words p ∙ r.0) (set_again s.views id v at_home ∙ r.1),
    grind (arith, g),
    λ x q. let is : n ≡ k.word_of x = ap (λ m. get_or s.words m 0) q ∙ word_is x in subst (IsNear v x) (sym is) (near x),
    λ whole some_cap x. let h = sound.told id v here some_cap x in let t = g some_cap in let y = sum_by_rest (λ u. most_of u x) (λ (u : View). u.cap) k.passes (λ j u q. (sound.each j u q).own.high x) id v here in omega arith,
  )
