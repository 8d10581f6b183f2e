-- What each move makes of the pass that makes it.
use Rattle.std.proofs.Common.{◌≡◌, ℕ, ◌+◌, ◌≤◌, ◌⊎◌, inl, inr, true, leb, refl, ap, subst, ⊎_elim, arith}
use Rattle.agg_model.specs.declared.breaker.Limits.{Limits}
use Rattle.agg_model.specs.declared.breaker.Child.{Child}
use Rattle.agg_model.specs.declared.breaker.Child.TheVariants as child
use Rattle.agg_model.specs.declared.breaker.Which.{Which}
use Rattle.agg_model.specs.declared.breaker.Which.TheVariants.{Request, Fielddata, Inflight, Parent}
use Rattle.breaker_words.specs.declared.trial.Trial.{Trial}
use Rattle.breaker_words.specs.declared.trial.Trial.TheVariants.{Rest, ChildRefused, ChildGranted, ParentRefused, ChildReturning, ParentGiven}
use Rattle.breaker_words.specs.declared.view.Account.{Account}
use Rattle.breaker_words.specs.declared.view.Accounts.{Accounts}
use Rattle.breaker_words.specs.declared.view.View.{View}
use Rattle.breaker_words.specs.Breakers.{amount_at}
use Rattle.agg_model.specs.Breakers.{which_of, limit_of}
use Rattle.breaker_words.specs.Accounts.{hold_in, children_in, account, put, noted_account, tripped_account, lowered_account}
use Rattle.breaker_words.specs.Views.{hold_of, most_of}
use Rattle.breaker_words.specs.Trials.{child_standing, parent_standing, child_only, is_rest, is_child_refused, is_child_granted, is_returning, is_parent_refused, is_given, HasAmount}
use Rattle.breaker_words.specs.AfterStep.{noted_parent, raised_both, after_try_child, after_take_back_child, after_try_parent, after_take_back_parent, after_give_parent, after_give_child}
use Rattle.breaker_words.specs.Soundness.{IsConsistent}
use Rattle.breaker_words.proofs.Moves.{amount_at_zero, account_cases, hold_put, children_put, parent_put, hold_child}
use Rattle.list_laws.proofs.PlaceTests.{by_test}

-- a fact at the breaker w with its new account and a, and at each other with its account and nothing
pub both_cases : (P : Which → Account → ℕ → Type 0) (w : Which) (k : Accounts) (b : Account) (a : ℕ) → P w b a → ((x : Which) → P x (account k x) 0) → (x : Which) → P x (account (put k w b) x) (amount_at w a x)
both_cases P Request k b a h f Request = h
both_cases P Fielddata k b a h f Fielddata = h
both_cases P Inflight k b a h f Inflight = h
both_cases P Parent k b a h f Parent = h
both_cases P Request k b a h f Fielddata = f Fielddata
both_cases P Request k b a h f Inflight = f Inflight
both_cases P Request k b a h f Parent = f Parent
both_cases P Fielddata k b a h f Request = f Request
both_cases P Fielddata k b a h f Inflight = f Inflight
both_cases P Fielddata k b a h f Parent = f Parent
both_cases P Inflight k b a h f Request = f Request
both_cases P Inflight k b a h f Fielddata = f Fielddata
both_cases P Inflight k b a h f Parent = f Parent
both_cases P Parent k b a h f Request = f Request
both_cases P Parent k b a h f Fielddata = f Fielddata
both_cases P Parent k b a h f Inflight = f Inflight

pub other_put : (c : Child) (k : Accounts) (b : Account) → account (put k Parent b) (which_of c) ≡ account k (which_of c)
other_put child.Request k b = refl
other_put child.Fielddata k b = refl
other_put child.Inflight k b = refl

pub child_parent : (c : Child) (a : ℕ) → amount_at (which_of c) a Parent ≡ 0
child_parent child.Request a = refl
child_parent child.Fielddata a = refl
child_parent child.Inflight a = refl

pub hold_both : (c : Child) (x : Which) (k : Accounts) (a : ℕ) → hold_in (raised_both k c a) x ≡ hold_in k x + amount_at Parent a x + amount_at (which_of c) a x
hold_both child.Request Request k a = omega arith
hold_both child.Fielddata Fielddata k a = omega arith
hold_both child.Inflight Inflight k a = omega arith
hold_both _ _ k a = omega arith

pub same_both : (c : Child) (x : Which) (k : Accounts) (a : ℕ) → ((account (raised_both k c a) x).most ≡ (account k x).most) × ((account (raised_both k c a) x).seen ≡ (account k x).seen)
same_both child.Request Request k a = (refl, refl)
same_both child.Fielddata Fielddata k a = (refl, refl)
same_both child.Inflight Inflight k a = (refl, refl)
same_both _ _ k a = (refl, refl)

pub children_both : (c : Child) (k : Accounts) (a : ℕ) → children_in (raised_both k c a) ≡ children_in k + a
children_both child.Request k a = omega arith
children_both child.Fielddata k a = omega arith
children_both child.Inflight k a = omega arith

-- other numbers of the accounts than the holds and what goes with them
pub record Quiet (k m : Accounts) : Type 0 where
  pub hold : (x : Which) → hold_in m x ≡ hold_in k x
  pub most : (x : Which) → (account m x).most ≡ (account k x).most
  pub seen : (x : Which) → (account m x).seen ≡ (account k x).seen

pub quiet_same : (k : Accounts) → Quiet k k
quiet_same k = record { hold = λ x. refl; most = λ x. refl; seen = λ x. refl }

pub quiet_tripped : (k : Accounts) (w : Which) → Quiet k (put k w (tripped_account (account k w)))
quiet_tripped k w = record {
  hold = account_cases (λ x b. b.hold ≡ hold_in k x) w k (tripped_account (account k w)) refl (λ x. refl);
  most = account_cases (λ x b. b.most ≡ (account k x).most) w k (tripped_account (account k w)) refl (λ x. refl);
  seen = account_cases (λ x b. b.seen ≡ (account k x).seen) w k (tripped_account (account k w)) refl (λ x. refl);
}

pub quiet_children : (k m : Accounts) → Quiet k m → children_in m ≡ children_in k
quiet_children k m q = let a = q.hold Request in let b = q.hold Fielddata in let c = q.hold Inflight in omega arith

-- what a pass in a known trial has
pub record At (v : View) (t : Trial) : Type 0 where
  pub asked : HasAmount t v.amount
  pub room : children_in v.accounts + child_standing t v.amount ≤ v.cap
  pub even : v.accounts.parent.hold + child_only t v.amount ≡ children_in v.accounts
  pub held : child_only t v.amount ≤ hold_of v (which_of v.child)
  pub low : (x : Which) → hold_of v x + amount_at (which_of v.child) (child_standing t v.amount) x + amount_at Parent (parent_standing t v.amount) x ≤ most_of v x

pub own_at : (v : View) (t : Trial) → v.trial ≡ t → IsConsistent v → At v t
own_at v t e o = subst (At v) e record { asked = o.asked; room = o.room; even = o.even; held = o.held; low = o.low }

pub rests : (t : Trial) → is_rest t ≡ true → t ≡ Rest
rests Rest e = refl
rests ChildRefused e = cc
rests ChildGranted e = cc
rests ParentRefused e = cc
rests ChildReturning e = cc
rests ParentGiven e = cc

pub returns : (t : Trial) → is_returning t ≡ true → (t ≡ ChildRefused) ⊎ (t ≡ ChildReturning)
returns Rest e = inl cc
returns ChildRefused e = inl refl
returns ChildGranted e = inl cc
returns ParentRefused e = inl cc
returns ChildReturning e = inr refl
returns ParentGiven e = inl cc

pub grants : (t : Trial) → is_child_granted t ≡ true → t ≡ ChildGranted
grants Rest e = cc
grants ChildRefused e = cc
grants ChildGranted e = refl
grants ParentRefused e = cc
grants ChildReturning e = cc
grants ParentGiven e = cc

pub refuses : (t : Trial) → is_parent_refused t ≡ true → t ≡ ParentRefused
refuses Rest e = cc
refuses ChildRefused e = cc
refuses ChildGranted e = cc
refuses ParentRefused e = refl
refuses ChildReturning e = cc
refuses ParentGiven e = cc

pub gives : (t : Trial) → is_given t ≡ true → t ≡ ParentGiven
gives Rest e = cc
gives ChildRefused e = cc
gives ChildGranted e = cc
gives ParentRefused e = cc
gives ChildReturning e = cc
gives ParentGiven e = refl

-- a trial at a child
abbrev pub in_trial : View → Child → ℕ → ℕ → Trial → View
in_trial v c a n t = record v { accounts = put v.accounts (which_of c) (noted_account (account v.accounts (which_of c)) a n); trial = t; child = c; amount = a }

pub own_trial : (v : View) (c : Child) (a n : ℕ) (t : Trial) → IsConsistent v → v.trial ≡ Rest → v.accounts.parent.hold + a ≤ v.cap → child_standing t a ≡ a → parent_standing t a ≡ 0 → child_only t a ≡ 0 → HasAmount t a → IsConsistent (in_trial v c a n t)
own_trial v c a n t o rest room p q r asked = let w = which_of c in let k = v.accounts in let b = noted_account (account k w) a n in let f = own_at v Rest rest o in let hc = hold_child c k in let cp = children_put c k b in let pp = ap (λ (d : Account). d.hold) (parent_put c k b) in let even = f.even in record {
  asked = asked;
  room = omega arith;
  even = omega arith;
  held = omega arith;
  low = λ x. let z = amount_at_zero Parent x in let z' : amount_at Parent (parent_standing t a) x ≡ amount_at Parent 0 x = ap (λ m. amount_at Parent m x) q in let y : amount_at w (child_standing t a) x ≡ amount_at w a x = ap (λ m. amount_at w m x) p in
      let m = both_cases (λ y d m. d.hold + m ≤ d.most) w k b a (omega arith) (λ y. let g = f.low y in omega arith) x in omega arith;
  high = account_cases (λ x d. d.most ≤ v.cap) w k b (let g = o.high w in omega arith) o.high;
}

pub own_tried_child : (l : Limits) (v : View) (c : Child) (a n : ℕ) → IsConsistent v → v.trial ≡ Rest → 1 ≤ a → v.accounts.parent.hold + a ≤ v.cap → IsConsistent (after_try_child l v c a n)
own_tried_child l v c a n o rest pos room = by_test (λ t. IsConsistent (in_trial v c a n t)) (leb n (limit_of l (which_of c))) ChildGranted ChildRefused
    (λ _. own_trial v c a n ChildGranted o rest room refl refl refl pos) (λ _. own_trial v c a n ChildRefused o rest room refl refl refl pos)

-- back at rest, with the numbers that it had
pub own_rested : (v : View) (t : Trial) (k : Accounts) → IsConsistent v → v.trial ≡ t → child_only t v.amount ≡ 0 → Quiet v.accounts k → IsConsistent (record v { accounts = k; trial = Rest })
own_rested v t k o is r q = let f = own_at v t is o in let ch = quiet_children v.accounts k q in let ph = q.hold Parent in let even = f.even in let room = f.room in record {
  asked = tt;
  room = omega arith;
  even = omega arith;
  held = omega arith;
  low = λ x. let w = which_of v.child in let g = f.low x in let h = q.hold x in let m = q.most x in let z = amount_at_zero w x in let z' = amount_at_zero Parent x in omega arith;
  high = λ x. let g = o.high x in let m = q.most x in omega arith;
}

pub quiet_taken : (v : View) → Quiet v.accounts (after_take_back_child v).accounts
quiet_taken v = by_test (λ k. Quiet v.accounts k) (is_child_refused v.trial) (put v.accounts (which_of v.child) (tripped_account (account v.accounts (which_of v.child)))) v.accounts (λ _. quiet_tripped v.accounts (which_of v.child)) (λ _. quiet_same v.accounts)

pub own_taken_child : (v : View) → IsConsistent v → is_returning v.trial ≡ true → IsConsistent (after_take_back_child v)
own_taken_child v o e = ⊎_elim (λ (r : v.trial ≡ ChildRefused). own_rested v ChildRefused (after_take_back_child v).accounts o r refl (quiet_taken v)) (λ (r : v.trial ≡ ChildReturning). own_rested v ChildReturning (after_take_back_child v).accounts o r refl (quiet_taken v)) (returns v.trial e)

pub low_noted : (v : View) (n : ℕ) → IsConsistent v → v.trial ≡ ChildGranted → (x : Which) → hold_of v x + amount_at (which_of v.child) v.amount x + amount_at Parent v.amount x ≤ (account (noted_parent v n) x).most
low_noted v n o is x = let a : ℕ = v.amount in let w = which_of v.child in let k = v.accounts in let b = noted_account k.parent a n in let f = own_at v ChildGranted is o in let cp = child_parent v.child a in
    let h = hold_put Parent x k b in both_cases (λ y d m. hold_in k y + amount_at w a y + m ≤ d.most) Parent k b a (omega arith) (λ y. let g = f.low y in let z = amount_at_zero Parent y in omega arith) x

pub high_noted : (v : View) (n : ℕ) → IsConsistent v → v.trial ≡ ChildGranted → (x : Which) → (account (noted_parent v n) x).most ≤ v.cap
high_noted v n o is = let f = own_at v ChildGranted is o in let even = f.even in let room = f.room in account_cases (λ x d. d.most ≤ v.cap) Parent v.accounts (noted_account v.accounts.parent v.amount n) (let g = o.high Parent in omega arith) o.high

pub own_parent_granted : (v : View) (n : ℕ) → IsConsistent v → v.trial ≡ ChildGranted → IsConsistent (record v { accounts = raised_both (noted_parent v n) v.child v.amount; trial = Rest })
own_parent_granted v n o is = let a : ℕ = v.amount in let k = noted_parent v n in let f = own_at v ChildGranted is o in let even = f.even in let room = f.room in let ch = children_both v.child k a in let ph = hold_both v.child Parent k a in let cp = child_parent v.child a in record {
  asked = tt;
  room = omega arith;
  even = omega arith;
  held = omega arith;
  low = λ x. let w = which_of v.child in let h = hold_both v.child x k a in let p = hold_put Parent x v.accounts (noted_account v.accounts.parent a n) in let m = (same_both v.child x k a).0 in let g = low_noted v n o is x in let z = amount_at_zero w x in let z' = amount_at_zero Parent x in omega arith;
  high = λ x. let m = (same_both v.child x k a).0 in let g = high_noted v n o is x in omega arith;
}

pub own_parent_refused : (v : View) (n : ℕ) → IsConsistent v → v.trial ≡ ChildGranted → IsConsistent (record v { accounts = noted_parent v n; trial = ParentRefused })
own_parent_refused v n o is = let a : ℕ = v.amount in let f = own_at v ChildGranted is o in let even = f.even in let room = f.room in record {
  asked = f.asked;
  room = room;
  even = even;
  held = omega arith;
  low = λ x. let p = hold_put Parent x v.accounts (noted_account v.accounts.parent a n) in let g = low_noted v n o is x in omega arith;
  high = high_noted v n o is;
}

pub own_tried_parent : (l : Limits) (v : View) (n : ℕ) → IsConsistent v → v.trial ≡ ChildGranted → IsConsistent (after_try_parent l v n)
own_tried_parent l v n o is = by_test IsConsistent (leb n l.parent) _ _ (λ _. own_parent_granted v n o is) (λ _. own_parent_refused v n o is)

pub own_taken_parent : (v : View) → IsConsistent v → v.trial ≡ ParentRefused → IsConsistent (after_take_back_parent v)
own_taken_parent v o is = let f = own_at v ParentRefused is o in let q = quiet_tripped v.accounts Parent in let even = f.even in record {
  asked = f.asked;
  room = f.room;
  even = even;
  held = omega arith;
  low = λ x. let w = which_of v.child in let g = f.low x in let h = q.hold x in let m = q.most x in let z' = amount_at_zero Parent x in omega arith;
  high = λ x. let g = o.high x in let m = q.most x in omega arith;
}

pub most_lowered : (w : Which) (k : Accounts) (a : ℕ) (x : Which) → let m = put k w (lowered_account (account k w) a) in ((account m x).most ≡ (account k x).most) × ((account m x).seen ≡ (account k x).seen) × (hold_in m x ≤ hold_in k x)
most_lowered w k a = account_cases (λ x d. (d.most ≡ (account k x).most) × (d.seen ≡ (account k x).seen) × (d.hold ≤ hold_in k x)) w k (lowered_account (account k w) a) (refl, refl, omega arith) (λ x. (refl, refl, omega arith))

pub own_given_parent : (v : View) (c : Child) (a : ℕ) → IsConsistent v → v.trial ≡ Rest → 1 ≤ a → a ≤ hold_of v (which_of c) → IsConsistent (after_give_parent v c a)
own_given_parent v c a o rest pos has = let k = v.accounts in let f = own_at v Rest rest o in let even = f.even in let room = f.room in let hc = hold_child c k in record {
  asked = pos;
  room = omega arith;
  even = omega arith;
  held = let e = ap (λ (d : Account). d.hold) (other_put c k (lowered_account k.parent a)) in omega arith;
  low = λ x. let g = f.low x in let m = most_lowered Parent k a x in let z = amount_at_zero (which_of c) x in let z' = amount_at_zero Parent x in omega arith;
  high = λ x. let g = o.high x in let m = most_lowered Parent k a x in omega arith;
}

pub own_given_child : (v : View) → IsConsistent v → v.trial ≡ ParentGiven → IsConsistent (after_give_child v)
own_given_child v o is = let a : ℕ = v.amount in let k = v.accounts in let w = which_of v.child in let b = lowered_account (account k w) a in let f = own_at v ParentGiven is o in let even = f.even in let room = f.room in let held = f.held in let cp = children_put v.child k b in let pp = ap (λ (d : Account). d.hold) (parent_put v.child k b) in record {
  asked = tt;
  room = omega arith;
  even = omega arith;
  held = omega arith;
  low = λ x. let g = f.low x in let m = most_lowered w k a x in let z = amount_at_zero w x in let z' = amount_at_zero Parent x in omega arith;
  high = λ x. let g = o.high x in let m = most_lowered w k a x in omega arith;
}
