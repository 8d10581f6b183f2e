-- Each move of a pass of its own keeps the state sound.
use Rattle.std.proofs.Common.{◌≡◌, ℕ, ◌+◌, ◌-◌, ◌≤◌, ◌⊎◌, inl, inr, max, true, leb, refl, ap, ⊎_elim, arith}
use Rattle.std.proofs.lemmas.Bool.{and_parts, and_from, leb-true, le-leb}
use mathlib.Core.Option.{some}
use lib.ListN.{get_elem?}
use Rattle.agg_model.specs.declared.breaker.Limits.{Limits}
use Rattle.agg_model.specs.declared.breaker.Child.{Child}
use Rattle.agg_model.specs.declared.breaker.Which.{Which}
use Rattle.agg_model.specs.declared.breaker.Which.TheVariants.{Parent}
use Rattle.breaker_words.specs.declared.trial.Trial.{Trial}
use Rattle.breaker_words.specs.declared.trial.Trial.TheVariants.{Rest, ChildRefused, ChildGranted, ParentRefused, ChildReturning, ParentGiven}
use Rattle.breaker_words.specs.declared.view.View.{View}
use Rattle.breaker_words.specs.Breakers.{amount_at}
use Rattle.agg_model.specs.Breakers.{which_of, limit_of}
use Rattle.breaker_words.specs.Accounts.{hold_in, account, put, noted_account, lowered_account}
use Rattle.breaker_words.specs.Views.{most_of, seen_of}
use Rattle.breaker_words.specs.Trials.{in_force_of, child_in_force, child_standing, parent_standing, child_only, is_rest, is_child_granted, is_returning, is_parent_refused, is_given, HasAmount}
use Rattle.breaker_words.specs.AfterStep.{noted_parent, raised_both, after_try_child, after_take_back_child, after_try_parent, after_take_back_parent, after_give_parent, after_give_child}
use Rattle.breaker_words.specs.Moves.{BreakerState, with_word_raised, with_word_lowered, may_try_child, may_give_parent}
use Rattle.breaker_words.specs.Soundness.{IsConsistent, IsSound}
use Rattle.breaker_words.proofs.Moves.{amount_at_zero, amount_at_add, amount_at_cases, account_cases, hold_put, standing_as, inforce_as, rises, falls}
use Rattle.list_laws.proofs.PlaceTests.{by_test}
use Rattle.breaker_words.proofs.OnePass

pub may_try_tells : (a : ℕ) (v : View) → may_try_child a v ≡ true → (v.trial ≡ Rest) × (1 ≤ a) × (v.accounts.parent.hold + a ≤ v.cap)
may_try_tells a v m = let p = and_parts _ _ m in let q = and_parts _ _ p.0 in (OnePass.rests v.trial q.0, leb-true _ _ q.1, leb-true _ _ p.1)

pub may_try_child_is : (a : ℕ) (v : View) → v.trial ≡ Rest → 1 ≤ a → v.accounts.parent.hold + a ≤ v.cap → may_try_child a v ≡ true
may_try_child_is a v r p q = and_from _ _ (and_from _ _ (ap is_rest r) (le-leb _ _ p)) (le-leb _ _ q)

max_cases : (a b : ℕ) → (max a b ≤ a) ⊎ (max a b ≤ b)
max_cases a b = grind arith

module _ (l : Limits) (s : BreakerState) (h : IsSound l s) (i : ℕ) (v : View) (here : get_elem? s.passes i ≡ some v) where
  abbrev own : IsConsistent v
  own = (h.each i v here).own

  seen_noted : (w : Which) (a : ℕ) → let b = noted_account (account v.accounts w) a (s.word_of w + a) in (x : Which) → ((account (put v.accounts w b) x).seen ≤ seen_of v x) ⊎ ((account (put v.accounts w b) x).seen ≤ s.word_of x + amount_at w a x)
  seen_noted w a = OnePass.both_cases (λ x d m. (d.seen ≤ seen_of v x) ⊎ (d.seen ≤ s.word_of x + m)) w v.accounts (noted_account (account v.accounts w) a (s.word_of w + a)) a (max_cases _ _) (λ x. inl (omega arith))

  most_noted : (w : Which) (a n : ℕ) (x : Which) → most_of v x ≤ (account (put v.accounts w (noted_account (account v.accounts w) a n)) x).most
  most_noted w a n = account_cases (λ x d. most_of v x ≤ d.most) w v.accounts (noted_account (account v.accounts w) a n) (omega arith) (λ x. omega arith)

  trial_child : (c : Child) (a : ℕ) (t : Trial) → v.trial ≡ Rest → 1 ≤ a → v.accounts.parent.hold + a ≤ v.cap → child_standing t a ≡ a → parent_standing t a ≡ 0 → child_only t a ≡ 0 → HasAmount t a
      → ((x : Which) → (amount_at (which_of c) (child_in_force t a) x ≡ 0) ⊎ (s.word_of x + amount_at (which_of c) a x ≤ limit_of l x)) → IsSound l (with_word_raised s i (which_of c) a (OnePass.in_trial v c a (s.word_of (which_of c) + a) t))
  trial_child c a t rest pos room p q r asked force = let w = which_of c in let n : ℕ = s.word_of w + a in let b = noted_account (account v.accounts w) a n in
      rises l s h i v here w a (OnePass.in_trial v c a n t)
      (λ x. let e = standing_as v Rest rest x in let d = hold_put w x v.accounts b in let z = amount_at_zero Parent x in let z'' = amount_at_zero (which_of v.child) x in let z' : amount_at Parent (parent_standing t a) x ≡ amount_at Parent 0 x = ap (λ m. amount_at Parent m x) q in let y : amount_at w (child_standing t a) x ≡ amount_at w a x = ap (λ m. amount_at w m x) p in omega arith)
      (λ x. ⊎_elim (λ (z : amount_at w (child_in_force t a) x ≡ 0). let e = inforce_as v Rest rest x in let d = hold_put w x v.accounts b in let z'' = amount_at_zero (which_of v.child) x in inl (omega arith)) (λ (z : s.word_of x + amount_at w a x ≤ limit_of l x). inr z) (force x))
      (most_noted w a n) (seen_noted w a) refl refl (omega arith) (OnePass.own_trial v c a n t own rest room p q r asked)

  pub sound_tried_child : (c : Child) (a : ℕ) → may_try_child a v ≡ true → IsSound l (with_word_raised s i (which_of c) a (after_try_child l v c a (s.word_of (which_of c) + a)))
  sound_tried_child c a may = let m = may_try_tells a v may in let w = which_of c in let n : ℕ = s.word_of w + a in
      by_test (λ t. IsSound l (with_word_raised s i w a (OnePass.in_trial v c a n t))) (leb n (limit_of l w)) ChildGranted ChildRefused
      (λ e. trial_child c a ChildGranted m.0 m.1 m.2 refl refl refl m.1 (λ x. amount_at_cases (λ y k. (k ≡ 0) ⊎ (s.word_of y + k ≤ limit_of l y)) w a (inr (leb-true _ _ e)) (λ y. inl refl) x))
      (λ e. trial_child c a ChildRefused m.0 m.1 m.2 refl refl refl m.1 (λ x. inl (amount_at_zero w x)))

  taken_as : (t : Trial) → v.trial ≡ t → child_standing t v.amount ≡ v.amount → parent_standing t v.amount ≡ 0 → 1 ≤ v.amount → child_only t v.amount ≡ 0 → IsSound l (with_word_lowered s i (which_of v.child) v.amount (after_take_back_child v))
  taken_as t is p q pos r = let w = which_of v.child in let a : ℕ = v.amount in let u : View = after_take_back_child v in let k = OnePass.quiet_taken v in let f = OnePass.own_at v t is own in let room = f.room in
      falls l s h i v here w a u
      (λ x. let e = standing_as v t is x in let d = k.hold x in let z = amount_at_zero Parent x in let z'' = amount_at_zero w x in let z' : amount_at Parent (parent_standing t a) x ≡ amount_at Parent 0 x = ap (λ m. amount_at Parent m x) q in let y : amount_at w (child_standing t a) x ≡ amount_at w a x = ap (λ m. amount_at w m x) p in omega arith)
      (λ x. let d = k.hold x in let z'' = amount_at_zero w x in omega arith)
      k.most k.seen refl refl (omega arith) (OnePass.own_rested v t u.accounts own is r k)

  pub sound_taken_child : is_returning v.trial ≡ true → IsSound l (with_word_lowered s i (which_of v.child) v.amount (after_take_back_child v))
  sound_taken_child e = ⊎_elim (λ (r : v.trial ≡ ChildRefused). taken_as ChildRefused r refl refl (OnePass.own_at v ChildRefused r own).asked refl) (λ (r : v.trial ≡ ChildReturning). taken_as ChildReturning r refl refl (OnePass.own_at v ChildReturning r own).asked refl) (OnePass.returns v.trial e)

  pub sound_tried_parent : is_child_granted v.trial ≡ true → IsSound l (with_word_raised s i Parent v.amount (after_try_parent l v (s.word_of Parent + v.amount)))
  sound_tried_parent e = let is = OnePass.grants v.trial e in let w = which_of v.child in let a : ℕ = v.amount in let n : ℕ = s.word_of Parent + a in let k = noted_parent v n in let f = OnePass.own_at v ChildGranted is own in let pos : 1 ≤ a = f.asked in let room = f.room in
      let g : View = record v { accounts = raised_both k v.child a; trial = Rest } in let r : View = record v { accounts = k; trial = ParentRefused } in
      by_test (λ u. IsSound l (with_word_raised s i Parent a u)) (leb n l.parent) g r
      (λ ok. rises l s h i v here Parent a g
      (λ x. let e = standing_as v ChildGranted is x in let d = OnePass.hold_both v.child x k a in let d' = hold_put Parent x v.accounts (noted_account v.accounts.parent a n) in let z = amount_at_zero Parent x in let z'' = amount_at_zero w x in omega arith)
      (λ x. amount_at_cases (λ y m. amount_at Parent a y ≡ m → (in_force_of g y ≤ in_force_of v y) ⊎ (s.word_of y + m ≤ limit_of l y)) Parent a (λ _. inr (leb-true _ _ ok))
      (λ y z0. let e = inforce_as v ChildGranted is y in let d = OnePass.hold_both v.child y k a in let d' = hold_put Parent y v.accounts (noted_account v.accounts.parent a n) in let z'' = amount_at_zero w y in inl (omega arith)) x refl)
      (λ x. let m = (OnePass.same_both v.child x k a).0 in let m' = most_noted Parent a n x in omega arith)
      (λ x. let m = (OnePass.same_both v.child x k a).1 in ⊎_elim (λ (z : (account k x).seen ≤ seen_of v x). inl (omega arith)) (λ (z : (account k x).seen ≤ s.word_of x + amount_at Parent a x). inr (omega arith)) (seen_noted Parent a x))
      refl refl (omega arith) (OnePass.own_parent_granted v n own is))
      (λ no. rises l s h i v here Parent a r
      (λ x. let e = standing_as v ChildGranted is x in let d' = hold_put Parent x v.accounts (noted_account v.accounts.parent a n) in let z = amount_at_zero Parent x in omega arith)
      (λ x. let e = inforce_as v ChildGranted is x in let d' = hold_put Parent x v.accounts (noted_account v.accounts.parent a n) in inl (omega arith))
      (most_noted Parent a n) (seen_noted Parent a) refl refl (omega arith) (OnePass.own_parent_refused v n own is))

  pub sound_taken_parent : is_parent_refused v.trial ≡ true → IsSound l (with_word_lowered s i Parent v.amount (after_take_back_parent v))
  sound_taken_parent e = let is = OnePass.refuses v.trial e in let w = which_of v.child in let a : ℕ = v.amount in let k = OnePass.quiet_tripped v.accounts Parent in let f = OnePass.own_at v ParentRefused is own in let pos : 1 ≤ a = f.asked in let room = f.room in
      falls l s h i v here Parent a (after_take_back_parent v)
      (λ x. let e = standing_as v ParentRefused is x in let d = k.hold x in let z = amount_at_zero Parent x in omega arith)
      (λ x. let e = inforce_as v ParentRefused is x in let d = k.hold x in omega arith)
      k.most k.seen refl refl (omega arith) (OnePass.own_taken_parent v own is)

  pub sound_given_parent : (c : Child) (a : ℕ) → may_give_parent c a v ≡ true → IsSound l (with_word_lowered s i Parent a (after_give_parent v c a))
  sound_given_parent c a may = let p = and_parts _ _ may in let q = and_parts _ _ p.0 in let rest = OnePass.rests v.trial q.0 in let pos = leb-true _ _ q.1 in let has = leb-true _ _ p.1 in
      let k = v.accounts in let b = lowered_account k.parent a in let f = OnePass.own_at v Rest rest own in let even = f.even in let room = f.room in let hc = Rattle.breaker_words.proofs.Moves.hold_child c k in
      falls l s h i v here Parent a (after_give_parent v c a)
      (λ x. let e = standing_as v Rest rest x in let d = hold_put Parent x k b in let y = amount_at_add Parent x (k.parent.hold - a) a in let same : amount_at Parent (k.parent.hold - a + a) x ≡ amount_at Parent k.parent.hold x = ap (λ n. amount_at Parent n x) (omega arith) in
      let z = amount_at_zero Parent x in let z' = amount_at_zero (which_of v.child) x in let z'' = amount_at_zero (which_of c) x in omega arith)
      (λ x. let e = inforce_as v Rest rest x in let m = OnePass.most_lowered Parent k a x in let z' = amount_at_zero (which_of v.child) x in let z'' = amount_at_zero (which_of c) x in omega arith)
      (λ x. (OnePass.most_lowered Parent k a x).0) (λ x. (OnePass.most_lowered Parent k a x).1) refl refl (omega arith) (OnePass.own_given_parent v c a own rest pos has)

  pub sound_given_child : is_given v.trial ≡ true → IsSound l (with_word_lowered s i (which_of v.child) v.amount (after_give_child v))
  sound_given_child e = let is = OnePass.gives v.trial e in let w = which_of v.child in let a : ℕ = v.amount in let k = v.accounts in let b = lowered_account (account k w) a in let f = OnePass.own_at v ParentGiven is own in let pos : 1 ≤ a = f.asked in let held = f.held in let room = f.room in let hc = Rattle.breaker_words.proofs.Moves.hold_child v.child k in
      falls l s h i v here w a (after_give_child v)
      (λ x. let e = standing_as v ParentGiven is x in let d = hold_put w x k b in let y = amount_at_add w x (hold_in k w - a) a in let same : amount_at w (hold_in k w - a + a) x ≡ amount_at w (hold_in k w) x = ap (λ n. amount_at w n x) (omega arith) in
      let z = amount_at_zero Parent x in let z' = amount_at_zero w x in omega arith)
      (λ x. let e = inforce_as v ParentGiven is x in let m = OnePass.most_lowered w k a x in let z' = amount_at_zero w x in omega arith)
      (λ x. (OnePass.most_lowered w k a x).0) (λ x. (OnePass.most_lowered w k a x).1) refl refl (omega arith) (OnePass.own_given_child v own is)
