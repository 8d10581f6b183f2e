-- With the whole cap a pass is alone.
use Rattle.std.proofs.Common.{◌≡◌, ◌≢◌, ℕ, ◌<◌, ◌≤◌, refl, arith}
use mathlib.Core.Option.{some}
use lib.ListN.{get_elem?}
use Rattle.agg_model.specs.declared.breaker.Limits.{Limits}
use Rattle.agg_model.specs.declared.breaker.Which.{Which}
use Rattle.agg_model.specs.declared.breaker.Which.TheVariants.{Parent}
use Rattle.breaker_words.specs.declared.trial.Trial.{Trial}
use Rattle.breaker_words.specs.declared.trial.Trial.TheVariants.{Rest, ChildRefused, ChildGranted, ParentRefused, ChildReturning, ParentGiven}
use Rattle.breaker_words.specs.declared.view.View.{View}
use Rattle.std.specs.List.{sum_by}
use Rattle.agg_model.specs.Breakers.{which_of, limit_of}
use Rattle.breaker_words.specs.Views.{hold_of, most_of, seen_of}
use Rattle.breaker_words.specs.Trials.{standing_of, in_force_of}
use Rattle.breaker_words.specs.Moves.{BreakerState}
use Rattle.breaker_words.specs.Soundness.{IsSound}
use Rattle.list_laws.proofs.PlaceSums.{sum_by_pair, sum_by_rest, sum_by_has, sum_by_below}
use Rattle.breaker_words.proofs.Moves.{standing_as, amount_at_zero}
use Rattle.breaker_words.proofs.OnePass.{At, own_at}

-- a pass with no cap is at rest and holds nothing
rest_at : (v : View) (t : Trial) → At v t → v.cap ≡ 0 → hold_of v (which_of v.child) ≡ 0 → t ≡ Rest
rest_at v Rest f e z = refl
rest_at v ChildRefused f e z = let a = f.asked in let r = f.room in absurd (omega arith)
rest_at v ChildGranted f e z = let a = f.asked in let r = f.room in absurd (omega arith)
rest_at v ParentRefused f e z = let a = f.asked in let r = f.room in absurd (omega arith)
rest_at v ChildReturning f e z = let a = f.asked in let r = f.room in absurd (omega arith)
rest_at v ParentGiven f e z = let a = f.asked in let r = f.held in absurd (omega arith)

-- where one pass has the whole cap, each other holds nothing and is at rest
pub alone : (l : Limits) (s : BreakerState) → IsSound l s → (i : ℕ) (v : View) → get_elem? s.passes i ≡ some v → v.cap ≡ v.total → 0 < v.cap → (j : ℕ) (u : View) → j ≢ i → get_elem? s.passes j ≡ some u
    → (u.trial ≡ Rest) × ((x : Which) → hold_of u x ≡ 0)
alone l s h i v here whole pos j u apart there = let f = h.each i v here in let t = f.kept pos in let two = sum_by_pair (λ (y : View). y.cap) s.passes i j v u apart here there in let c = h.caps in let o = (h.each j u there).own in
    let none_left : u.cap ≡ 0 = omega arith in let holds : (x : Which) → hold_of u x ≡ 0 = λ x. let a = o.low x in let b = o.high x in omega arith in
    (rest_at u u.trial (own_at u u.trial refl o) none_left (holds (which_of u.child)), holds)

-- then each word is its own hold
pub own_word : (l : Limits) (s : BreakerState) → IsSound l s → (i : ℕ) (v : View) → get_elem? s.passes i ≡ some v → v.cap ≡ v.total → 0 < v.cap → v.trial ≡ Rest → (x : Which) → s.word_of x ≡ hold_of v x
own_word l s h i v here whole pos rest x = let a = sum_by_rest (λ u. standing_of u x) (λ (u : View). u.cap) s.passes (λ j u e. let o = (h.each j u e).own in let p = o.low x in let q = o.high x in omega arith) i v here in
    let b = sum_by_has (λ u. standing_of u x) s.passes i v here in let c = h.level x in let d = h.caps in let e = (h.each i v here).kept pos in
    let st = standing_as v Rest rest x in let z = amount_at_zero (which_of v.child) x in let z' = amount_at_zero Parent x in omega arith

-- and no trial of its own saw more than it had standing
pub own_seen : (l : Limits) (s : BreakerState) → IsSound l s → (i : ℕ) (v : View) → get_elem? s.passes i ≡ some v → v.cap ≡ v.total → 0 < v.cap → (x : Which) → seen_of v x ≤ most_of v x
own_seen l s h i v here whole pos x = let a = h.told i v here pos x in let b = (h.each i v here).kept pos in let c = h.caps in
    let d = sum_by_rest (λ u. most_of u x) (λ (u : View). u.cap) s.passes (λ j u e. (h.each j u e).own.high x) i v here in omega arith

-- what is held at a breaker is within its limit
pub holds_within : (l : Limits) (s : BreakerState) → IsSound l s → (x : Which) → sum_by (λ v. hold_of v x) s.passes ≤ limit_of l x
holds_within l s h x = let a = sum_by_below (λ v. hold_of v x) (λ v. in_force_of v x) s.passes (λ j u e. omega arith) in let b = h.within x in omega arith
