-- One pass more that is joined.
use Rattle.std.specs.Prelude.{◌≡◌, refl, ◌≤◌, ℕ, ◌+◌, max, nat_le, if◌then◌else◌, true, List, [], ◌∷◌, ◌++◌, sum_by}
use Rattle.std.specs.List.{AllByRecursion}
use Rattle.std.proofs.Common.{◌∙◌, ap, arith}
use Rattle.std.proofs.lemmas.Bool.{le-leb}
use Rattle.std.proofs.lemmas.List.Sums.{sum_by-append, sum_by-cons}
use Rattle.agg_model.specs.declared.breaker.Which.{Which}
use Rattle.agg_model.specs.declared.breaker.Which.TheVariants.{Request, Fielddata, Inflight, Parent}
use Rattle.breaker_words.specs.AfterStep.{after_join}
use Rattle.breaker_words.specs.Breakers.{counter_value}
use Rattle.breaker_words.specs.Passes.{IsOf, PassModel, WordsModel, with_view}
use Rattle.breaker_words.specs.Views.{granted_of, hold_of, most_of, seen_of, trips_of}
use Rattle.breaker_words.specs.declared.trial.Trial.TheVariants.{Rest}
use Rattle.breaker_words.specs.declared.view.View.{View}
use Rattle.shard_pool.specs.Joined.{HasSeen, IsJoined}

pub all-append : {A : Type 0} (P : A → Type 0) (xs ys : List A) → AllByRecursion P xs → AllByRecursion P ys → AllByRecursion P (xs ++ ys)
all-append P [] ys h g = g
all-append P (x ∷ xs) ys h g = (h.0, all-append P xs ys h.1 g)

pub all-weaker : {A : Type 0} (P Q : A → Type 0) → ((x : A) → P x → Q x) → (xs : List A) → AllByRecursion P xs → AllByRecursion Q xs
all-weaker P Q w [] h = tt
all-weaker P Q w (x ∷ xs) h = (w x h.0, all-weaker P Q w xs h.1)

-- a sum with one more at the end
pub sum-more : {A : Type 0} (f : A → ℕ) (xs : List A) (x : A) → sum_by f (xs ++ x ∷ []) ≡ sum_by f xs + f x
sum-more f xs x = let a = sum_by-append f xs (x ∷ []) in let b = sum_by-cons f x [] in omega (arith, a, b)

-- two passes with a cap
module _ (a b : View) (some : 1 ≤ a.cap) (more : 1 ≤ b.cap) where
  abbrev now : View
  now = after_join a b

  seen-both : (x : Which) → seen_of now x ≡ max (seen_of a x) (seen_of b x)
  seen-both x = by_which x
    where
      yes : nat_le 1 a.cap ≡ true
      yes = le-leb 1 a.cap some

      also : nat_le 1 b.cap ≡ true
      also = le-leb 1 b.cap more

      by_caps : (m n : ℕ) → max (if nat_le 1 a.cap then m else 0) (if nat_le 1 b.cap then n else 0) ≡ max m n
      by_caps m n = λ i. max (if yes i then m else 0) (if also i then n else 0)

      by_which : (x : Which) → seen_of now x ≡ max (seen_of a x) (seen_of b x)
      by_which Request = by_caps _ _
      by_which Fielddata = by_caps _ _
      by_which Inflight = by_caps _ _
      by_which Parent = by_caps _ _

  total-first : now.total ≡ a.total
  total-first = λ i. if le-leb 1 a.cap some i then a.total else (if nat_le 1 b.cap then b.total else a.total)

  hold-both : (x : Which) → hold_of now x ≡ hold_of a x + hold_of b x
  hold-both Request = refl
  hold-both Fielddata = refl
  hold-both Inflight = refl
  hold-both Parent = refl

  most-both : (x : Which) → most_of now x ≡ most_of a x + most_of b x
  most-both Request = refl
  most-both Fielddata = refl
  most-both Inflight = refl
  most-both Parent = refl

  granted-both : (x : Which) → granted_of now x ≡ counter_value (granted_of a x + granted_of b x)
  granted-both Request = refl
  granted-both Fielddata = refl
  granted-both Inflight = refl
  granted-both Parent = refl

  trips-both : (x : Which) → trips_of now x ≡ counter_value (trips_of a x + trips_of b x)
  trips-both Request = refl
  trips-both Fielddata = refl
  trips-both Inflight = refl
  trips-both Parent = refl

  seen-first : (v : View) → HasSeen a v → HasSeen now v
  seen-first v h x = let e = seen-both x in let low = h x in omega (arith, e, low)

  seen-last : HasSeen now b
  seen-last x = let e = seen-both x in omega (arith, e)

module _ (b : WordsModel) (old : View) where
  -- none were joined
  pub joined-none : (a : PassModel) → IsOf b a → a.view.trial ≡ Rest → 1 ≤ a.view.cap → a.view ≡ old → IsJoined b old [] a
  joined-none a of rest some is = record {
    of = of;
    rest = rest;
    total = ap (λ (v : View). v.total) is;
    some = some;
    cap = (let e = ap (λ (v : View). v.cap) is in omega (arith, e));
    holds = λ x. (let e = ap (λ v. hold_of v x) is in omega (arith, e));
    most = λ x. (let e = ap (λ v. most_of v x) is in omega (arith, e));
    granted = λ x. (let e = ap (λ v. granted_of v x) is in omega (arith, e));
    trips = λ x. (let e = ap (λ v. trips_of v x) is in omega (arith, e));
    seen = tt;
  }

  -- one more was
  pub joined-more : (vs : List View) (a : PassModel) → IsJoined b old vs a → (v : View) → 1 ≤ v.cap → IsJoined b old (vs ++ v ∷ []) (with_view a (after_join a.view v))
  joined-more vs a g v some = record {
    of = g.of;
    rest = refl;
    total = total-first a.view v g.some some ∙ g.total;
    some = (let s = g.some in omega (arith, s));
    cap = (let c = g.cap in let s = sum-more (λ (u : View). u.cap) vs v in omega (arith, c, s));
    holds = λ x. (let c = g.holds x in let e = hold-both a.view v g.some some x in let s = sum-more (λ u. hold_of u x) vs v in omega (arith, c, e, s));
    most = λ x. (let c = g.most x in let e = most-both a.view v g.some some x in let s = sum-more (λ u. most_of u x) vs v in omega (arith, c, e, s));
    granted = λ x. (let c = g.granted x in let e = granted-both a.view v g.some some x in let s = sum-more (λ u. granted_of u x) vs v in omega (arith, c, e, s));
    trips = λ x. (let c = g.trips x in let e = trips-both a.view v g.some some x in let s = sum-more (λ u. trips_of u x) vs v in omega (arith, c, e, s));
    seen = all-append (HasSeen (after_join a.view v)) vs (v ∷ []) (all-weaker (HasSeen a.view) (HasSeen (after_join a.view v)) (seen-first a.view v g.some some) vs g.seen) (seen-last a.view v g.some some, tt);
  }
