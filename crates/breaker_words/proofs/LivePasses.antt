-- A pass keeps what holds of it by itself.
use Rattle.std.proofs.Common.{◌≡◌, ℕ, ◌+◌, ◌<◌, ◌≤◌, leb, [], sym, refl, ◌∙◌, subst, arith}
use Rattle.std.proofs.lemmas.Bool.Decides.{nat_tests}
use Rattle.agg_model.specs.declared.breaker.Limits.{Limits}
use Rattle.agg_model.specs.declared.breaker.Child.{Child}
use Rattle.agg_model.specs.declared.breaker.Which.{Which}
use Rattle.agg_model.specs.declared.breaker.Which.TheVariants.{Parent}
use Rattle.breaker_words.specs.declared.trial.Trial.TheVariants.{Rest, ChildGranted, ParentGiven}
use Rattle.breaker_words.specs.declared.view.View.{View}
use Rattle.agg_model.specs.Breakers.{which_of}
use Rattle.breaker_words.specs.Views.{hold_of, most_of}
use Rattle.breaker_words.specs.AfterStep.{after_try_child, after_try_parent, after_set_ceiling, after_split, split_off, after_join}
use Rattle.breaker_words.specs.Soundness.{IsConsistent}
use Rattle.atomic_table.specs.Table.{Me}
use Rattle.breaker_words.specs.Passes.{IsLive}
use Rattle.breaker_words.proofs.Moves.{hold_child}
use Rattle.list_laws.proofs.PlaceTests.{by_test}
use Rattle.breaker_words.proofs.OnePass
use Rattle.breaker_words.proofs.Runs.{own_ceiled, own_cut, own_joined, own_empty}

abbrev pub Closed : Me (Unit {0}) View → View → Type 0
Closed me v = (me ≡ (v, [])) × IsLive v

pub closes : (me was : Me (Unit {0}) View) (u v : View) (f : View → View) → me ≡ (f was.0, []) → was ≡ (u, []) → v ≡ f u → IsLive (f u) → Closed me v
closes me was u v f e d is fit = (e ∙ ((λ i. (f (d i).0, [])) ∙ (λ i. (sym is i, []))), subst IsLive (sym is) fit)

pub fitting_of : (v u : View) → IsLive v → u.total ≡ v.total → u.cap ≡ v.cap → IsConsistent u → IsLive u
fitting_of v u f t k o = let a = f.living in let b = f.ceiling in let c = f.within in record { living = omega arith; ceiling = omega arith; within = omega arith; own = o }

pub fitting_tried : (l : Limits) (v : View) (c : Child) (a n : ℕ) → IsLive v → v.trial ≡ Rest → 1 ≤ a → v.accounts.parent.hold + a ≤ v.cap → IsLive (after_try_child l v c a n)
fitting_tried l v c a n f rest pos room = fitting_of v (after_try_child l v c a n) f refl refl (OnePass.own_tried_child l v c a n f.own rest pos room)

pub fitting_parent : (l : Limits) (v : View) (n : ℕ) → IsLive v → v.trial ≡ ChildGranted → IsLive (after_try_parent l v n)
fitting_parent l v n f is = by_test IsLive (leb n l.parent) _ _ (λ _. fitting_of v _ f refl refl (OnePass.own_parent_granted v n f.own is)) (λ _. fitting_of v _ f refl refl (OnePass.own_parent_refused v n f.own is))

pub fitting_ceiled : (v : View) (t : ℕ) → IsLive v → v.trial ≡ Rest → 1 ≤ t → v.accounts.parent.hold ≤ t → t ≤ 9223372036854775808 → IsLive (after_set_ceiling v t)
fitting_ceiled v t f rest pos room top = record { living = pos; ceiling = top; within = omega arith; own = own_ceiled v t f.own rest room }

pub fitting_cut : (v : View) (z : ℕ) → IsLive v → v.trial ≡ Rest → ((x : Which) → most_of v x + z ≤ v.cap) → IsLive (after_split v z)
fitting_cut v z f rest room = let w = f.within in record { living = f.living; ceiling = f.ceiling; within = omega arith; own = own_cut v z f.own rest room }

pub fitting_piece : (v : View) (z : ℕ) → IsLive v → ((x : Which) → most_of v x + z ≤ v.cap) → IsLive (split_off v z)
fitting_piece v z f room = let w = f.within in let r = room Parent in record { living = f.living; ceiling = f.ceiling; within = omega arith; own = own_empty v.limits z v.total }

pub fitting_joined : (v w : View) → IsLive v → IsLive w → v.trial ≡ Rest → w.trial ≡ Rest → (after_join v w).cap ≤ (after_join v w).total → IsLive (after_join v w)
fitting_joined v w f g rest rest' cap = record { living = grind (arith, nat_tests, f.living, g.living); ceiling = grind (arith, nat_tests, f.ceiling, g.ceiling); within = cap; own = own_joined v w f.own g.own rest rest' }

-- what the code adds up fits a word
pub hold_fits : (c : Child) (v : View) (a : ℕ) → IsLive v → v.trial ≡ Rest → v.accounts.parent.hold + a ≤ v.cap → hold_of v (which_of c) + a < 18446744073709551616
hold_fits c v a f rest room = let o = OnePass.own_at v Rest rest f.own in let e = o.even in let h = hold_child c v.accounts in let t = f.ceiling in let w = f.within in omega arith

pub trial_fits : (v : View) → IsLive v → v.trial ≡ ChildGranted → (hold_of v (which_of v.child) + v.amount < 18446744073709551616) × (v.accounts.parent.hold + v.amount < 18446744073709551616)
trial_fits v f is = let o = OnePass.own_at v ChildGranted is f.own in let e = o.even in let r = o.room in let h = hold_child v.child v.accounts in let t = f.ceiling in let w = f.within in (omega arith, omega arith)

pub parent_has : (c : Child) (v : View) (a : ℕ) → IsLive v → v.trial ≡ Rest → a ≤ hold_of v (which_of c) → a ≤ v.accounts.parent.hold
parent_has c v a f rest has = let o = OnePass.own_at v Rest rest f.own in let e = o.even in let h = hold_child c v.accounts in omega arith

pub child_has : (v : View) → IsLive v → v.trial ≡ ParentGiven → v.amount ≤ hold_of v (which_of v.child)
child_has v f is = (OnePass.own_at v ParentGiven is f.own).held

pub joined_fits : (v w : View) → IsLive v → IsLive w → v.trial ≡ Rest → w.trial ≡ Rest → (after_join v w).cap ≤ (after_join v w).total →
    (v.cap + w.cap < 18446744073709551616) × ((x : Which) → hold_of v x + hold_of w x < 18446744073709551616) × ((x : Which) → most_of v x + most_of w x < 18446744073709551616)
joined_fits v w f g rest rest' cap = let j = fitting_joined v w f g rest rest' cap in let t = j.ceiling in (
  omega arith,
  λ x. let a = (OnePass.own_at v Rest rest f.own).low x in let b = (OnePass.own_at w Rest rest' g.own).low x in let d = f.own.high x in let e = g.own.high x in omega arith,
  λ x. let d = f.own.high x in let e = g.own.high x in omega arith,
)
