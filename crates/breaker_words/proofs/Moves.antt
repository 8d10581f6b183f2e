-- One pass changes, and one word with it.
use Rattle.std.proofs.Common.{◌≡◌, ℕ, ◌+◌, ◌-◌, ◌<◌, ◌≤◌, ◌⊎◌, inl, Bool, true, false, cond, set, refl, ap, ◌∙◌, ⊎_elim, arith}
use mathlib.Core.Option.{Option, none, some}
use lib.ListN.{get_elem?}
use Rattle.agg_model.specs.declared.breaker.Limits.{Limits}
use Rattle.agg_model.specs.declared.breaker.Child.{Child}
use Rattle.agg_model.specs.declared.breaker.Child.TheVariants as child
use Rattle.agg_model.specs.declared.breaker.Which.{Which}
use Rattle.agg_model.specs.declared.breaker.Which.TheVariants.{Request, Fielddata, Inflight, Parent}
use Rattle.breaker_words.specs.declared.trial.Trial.{Trial}
use Rattle.breaker_words.specs.declared.trial.Trial.TheVariants.{Rest}
use Rattle.breaker_words.specs.declared.view.Account.{Account}
use Rattle.breaker_words.specs.declared.view.Accounts.{Accounts}
use Rattle.breaker_words.specs.declared.view.View.{View}
use Rattle.std.specs.List.{sum_by}
use Rattle.breaker_words.specs.Breakers.{amount_at}
use Rattle.agg_model.specs.Breakers.{which_of, limit_of}
use Rattle.breaker_words.specs.Accounts.{hold_in, children_in, account, put}
use Rattle.breaker_words.specs.Views.{hold_of, most_of, seen_of}
use Rattle.breaker_words.specs.Trials.{standing_of, in_force_of, child_in_force, child_standing, parent_standing}
use Rattle.breaker_words.specs.Moves.{BreakerState, with_word_raised, with_word_lowered, move_pass, move_some}
use Rattle.breaker_words.specs.Soundness.{FitsCeiling, IsConsistent, IsSound}
use Rattle.list_laws.proofs.PlaceSums.{sum_by_set, sum_by_has, sum_by_below, each_set}

pub amount_at_zero : (w x : Which) → amount_at w 0 x ≡ 0
amount_at_zero Request Request = refl
amount_at_zero Fielddata Fielddata = refl
amount_at_zero Inflight Inflight = refl
amount_at_zero Parent Parent = refl
amount_at_zero _ _ = refl

pub amount_at_add : (w x : Which) (a b : ℕ) → amount_at w (a + b) x ≡ amount_at w a x + amount_at w b x
amount_at_add Request Request a b = refl
amount_at_add Fielddata Fielddata a b = refl
amount_at_add Inflight Inflight a b = refl
amount_at_add Parent Parent a b = refl
amount_at_add _ _ a b = omega arith

pub amount_at_le : (w x : Which) (a b : ℕ) → a ≤ b → amount_at w a x ≤ amount_at w b x
amount_at_le Request Request a b h = h
amount_at_le Fielddata Fielddata a b h = h
amount_at_le Inflight Inflight a b h = h
amount_at_le Parent Parent a b h = h
amount_at_le _ _ a b h = omega arith

pub amount_at_most : (w x : Which) (a : ℕ) → amount_at w a x ≤ a
amount_at_most Request Request a = omega arith
amount_at_most Fielddata Fielddata a = omega arith
amount_at_most Inflight Inflight a = omega arith
amount_at_most Parent Parent a = omega arith
amount_at_most _ _ a = omega arith

pub amount_at_same : (w : Which) (a : ℕ) → amount_at w a w ≡ a
amount_at_same Request a = refl
amount_at_same Fielddata a = refl
amount_at_same Inflight a = refl
amount_at_same Parent a = refl

-- a fact at the breaker w with a, and at each with nothing
pub amount_at_cases : (P : Which → ℕ → Type 0) (w : Which) (a : ℕ) → P w a → ((x : Which) → P x 0) → (x : Which) → P x (amount_at w a x)
amount_at_cases P Request a h k Request = h
amount_at_cases P Fielddata a h k Fielddata = h
amount_at_cases P Inflight a h k Inflight = h
amount_at_cases P Parent a h k Parent = h
amount_at_cases P _ a h k x = k x

-- the same of accounts, one of which was put
pub account_cases : (P : Which → Account → Type 0) (w : Which) (k : Accounts) (b : Account) → P w b → ((x : Which) → P x (account k x)) → (x : Which) → P x (account (put k w b) x)
account_cases P Request k b h f Request = h
account_cases P Fielddata k b h f Fielddata = h
account_cases P Inflight k b h f Inflight = h
account_cases P Parent k b h f Parent = h
account_cases P Request k b h f Fielddata = f Fielddata
account_cases P Request k b h f Inflight = f Inflight
account_cases P Request k b h f Parent = f Parent
account_cases P Fielddata k b h f Request = f Request
account_cases P Fielddata k b h f Inflight = f Inflight
account_cases P Fielddata k b h f Parent = f Parent
account_cases P Inflight k b h f Request = f Request
account_cases P Inflight k b h f Fielddata = f Fielddata
account_cases P Inflight k b h f Parent = f Parent
account_cases P Parent k b h f Request = f Request
account_cases P Parent k b h f Fielddata = f Fielddata
account_cases P Parent k b h f Inflight = f Inflight

pub account_same : (w : Which) (k : Accounts) (b : Account) → account (put k w b) w ≡ b
account_same Request k b = refl
account_same Fielddata k b = refl
account_same Inflight k b = refl
account_same Parent k b = refl

pub hold_put : (w x : Which) (k : Accounts) (b : Account) → hold_in (put k w b) x + amount_at w (hold_in k w) x ≡ hold_in k x + amount_at w b.hold x
hold_put Request Request k b = omega arith
hold_put Fielddata Fielddata k b = omega arith
hold_put Inflight Inflight k b = omega arith
hold_put Parent Parent k b = omega arith
hold_put _ _ k b = omega arith

pub children_put : (c : Child) (k : Accounts) (b : Account) → children_in (put k (which_of c) b) + hold_in k (which_of c) ≡ children_in k + b.hold
children_put child.Request k b = omega arith
children_put child.Fielddata k b = omega arith
children_put child.Inflight k b = omega arith

pub parent_put : (c : Child) (k : Accounts) (b : Account) → (put k (which_of c) b).parent ≡ k.parent
parent_put child.Request k b = refl
parent_put child.Fielddata k b = refl
parent_put child.Inflight k b = refl

pub hold_child : (c : Child) (k : Accounts) → hold_in k (which_of c) ≤ children_in k
hold_child child.Request k = omega arith
hold_child child.Fielddata k = omega arith
hold_child child.Inflight k = omega arith

passing-le : (t : Trial) (a : ℕ) → child_in_force t a ≤ child_standing t a
passing-le Rest a = omega arith
passing-le _ a = omega arith

pub inforce_below : (v : View) (x : Which) → in_force_of v x ≤ standing_of v x
inforce_below v x = let h = amount_at_le (which_of v.child) x _ _ (passing-le v.trial v.amount) in omega arith

-- a view whose trial is known
pub standing_as : (v : View) (t : Trial) → v.trial ≡ t → (x : Which) → standing_of v x ≡ hold_of v x + amount_at (which_of v.child) (child_standing t v.amount) x + amount_at Parent (parent_standing t v.amount) x
standing_as v t e x = ap (λ (z : Trial). hold_of v x + amount_at (which_of v.child) (child_standing z v.amount) x + amount_at Parent (parent_standing z v.amount) x) e

pub inforce_as : (v : View) (t : Trial) → v.trial ≡ t → (x : Which) → in_force_of v x ≡ hold_of v x + amount_at (which_of v.child) (child_in_force t v.amount) x
inforce_as v t e x = ap (λ (z : Trial). hold_of v x + amount_at (which_of v.child) (child_in_force z v.amount) x) e

by_bool : (P : BreakerState → Type 0) (s t : BreakerState) (b : Bool) → P s → (b ≡ true → P t) → P (cond b t s)
by_bool P s t true h k = k refl
by_bool P s t false h k = h

by_option : (P : BreakerState → Type 0) (s : BreakerState) (may : View → Bool) (act : View → BreakerState) (o : Option View) → P s → ((v : View) → o ≡ some v → may v ≡ true → P (act v)) → P (move_some s may act o)
by_option P s may act none h k = h
by_option P s may act (some v) h k = by_bool P s (act v) (may v) h (k v refl)

pub move_pass_keeps : (P : BreakerState → Type 0) (s : BreakerState) (i : ℕ) (may : View → Bool) (act : View → BreakerState) → P s → ((v : View) → get_elem? s.passes i ≡ some v → may v ≡ true → P (act v)) → P (move_pass s i may act)
move_pass_keeps P s i may act h k = by_option P s may act (get_elem? s.passes i) h k

pub move_pass_is : (s : BreakerState) (i : ℕ) (may : View → Bool) (act : View → BreakerState) (v : View) → get_elem? s.passes i ≡ some v → may v ≡ true → move_pass s i may act ≡ act v
move_pass_is s i may act v e m = ap (move_some s may act) e ∙ ap (λ b. cond b (act v) s) m

pub lives : (t : ℕ) (v : View) → FitsCeiling t v → 1 ≤ t → 0 < v.cap → 1 ≤ v.total
lives t v f low p = let k = f.kept p in omega arith

module _ (l : Limits) (s : BreakerState) (h : IsSound l s) (i : ℕ) (v : View) (here : get_elem? s.passes i ≡ some v) where
  -- one pass changes, and the words with it
  pub changes : (w : View) (word : Which → ℕ) → ((x : Which) → word x + standing_of v x ≡ s.word_of x + standing_of w x)
      → ((x : Which) → (in_force_of w x ≤ in_force_of v x) ⊎ (word x ≤ limit_of l x))
      → ((x : Which) → most_of v x ≤ most_of w x) → ((x : Which) → (seen_of w x ≤ seen_of v x) ⊎ (seen_of w x ≤ word x))
      → w.cap ≡ v.cap → w.total ≡ v.total → 0 < v.cap → IsConsistent w
      → IsSound l (record { word_of = word; ceiling = s.ceiling; passes = set s.passes i w })
  changes w word level within most seen cap total some_cap own = let vs = s.passes in let us = set vs i w in let f = h.each i v here in let alive = lives s.ceiling v f h.low some_cap in
      let fits : FitsCeiling s.ceiling w = record { living = inl (omega arith); kept = λ p. let g = f.kept some_cap in omega arith; own = own } in
      let levels : (x : Which) → word x ≡ sum_by (λ u. standing_of u x) us = λ x. let a = level x in let b = sum_by_set (λ u. standing_of u x) vs i v w here in let c = h.level x in omega arith in
      let all = each_set (FitsCeiling s.ceiling) vs i w h.each fits in
      let mosts : (x : Which) → sum_by (λ u. most_of u x) vs ≤ sum_by (λ u. most_of u x) us = λ x. let a = most x in let b = sum_by_set (λ u. most_of u x) vs i v w here in omega arith in
      record {
        level = levels;
        within = λ x. ⊎_elim (λ (z : in_force_of w x ≤ in_force_of v x). let b = sum_by_set (λ u. in_force_of u x) vs i v w here in let c = h.within x in omega arith)
            (λ (z : word x ≤ limit_of l x). let b = sum_by_below (λ u. in_force_of u x) (λ u. standing_of u x) us (λ j u e. inforce_below u x) in let c = levels x in omega arith) (within x);
        caps = let b = sum_by_set (λ (u : View). u.cap) vs i v w here in let c = h.caps in omega arith;
        low = h.low;
        high = h.high;
        each = all;
        told = let F : View → Type 0 = λ u. 0 < u.cap → (x : Which) → seen_of u x ≤ sum_by (λ z. most_of z x) us in
            each_set F vs i w (λ j u e p x. let a = h.told j u e p x in let b = mosts x in omega arith)
            (λ p x. ⊎_elim (λ (z : seen_of w x ≤ seen_of v x). let a = h.told i v here some_cap x in let b = mosts x in omega arith)
            (λ (z : seen_of w x ≤ word x). let a = levels x in let b = sum_by_below (λ u. standing_of u x) (λ u. most_of u x) us (λ j u e. (all j u e).own.low x) in omega arith) (seen x));
      }

  pub rises : (c : Which) (a : ℕ) (w : View) → ((x : Which) → standing_of w x ≡ standing_of v x + amount_at c a x) → ((x : Which) → (in_force_of w x ≤ in_force_of v x) ⊎ (s.word_of x + amount_at c a x ≤ limit_of l x))
      → ((x : Which) → most_of v x ≤ most_of w x) → ((x : Which) → (seen_of w x ≤ seen_of v x) ⊎ (seen_of w x ≤ s.word_of x + amount_at c a x))
      → w.cap ≡ v.cap → w.total ≡ v.total → 0 < v.cap → IsConsistent w → IsSound l (with_word_raised s i c a w)
  rises c a w more within most seen cap total some_cap own = changes w (λ x. s.word_of x + amount_at c a x) (λ x. let m = more x in omega arith) within most seen cap total some_cap own

  pub falls : (c : Which) (a : ℕ) (w : View) → ((x : Which) → standing_of v x ≡ standing_of w x + amount_at c a x) → ((x : Which) → in_force_of w x ≤ in_force_of v x)
      → ((x : Which) → most_of w x ≡ most_of v x) → ((x : Which) → seen_of w x ≡ seen_of v x) → w.cap ≡ v.cap → w.total ≡ v.total → 0 < v.cap → IsConsistent w → IsSound l (with_word_lowered s i c a w)
  falls c a w less within most seen cap total some_cap own = changes w (λ x. s.word_of x - amount_at c a x) (λ x. let m = less x in let b = sum_by_has (λ u. standing_of u x) s.passes i v here in let c = h.level x in omega arith)
      (λ x. inl (within x)) (λ x. let m = most x in omega arith) (λ x. inl (let m = seen x in omega arith)) cap total some_cap own
