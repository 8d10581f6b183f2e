-- Two passes of tasks of one search in one.
use Rattle.std.specs.Prelude.{◌≡◌, refl, ◌≤◌, ℕ, ◌+◌, ◌*◌, max, nat_le, if◌then◌else◌, Bool, true, false, List, [], ◌∷◌, ◌++◌, map, sum_by, Option, Some, None}
use Rattle.std.specs.List.{AllByRecursion}
use Rattle.std.proofs.Common.{sym, ◌∙◌, ap, subst, arith}
use Rattle.std.proofs.lemmas.Bool.{le-leb}
use Rattle.std.proofs.lemmas.Grind.{flat_map-append}
use Rattle.std.proofs.lemmas.List.{map-append}
use Rattle.std.proofs.lemmas.List.Sums.{sum_by-append, sum_by-cons}
use Rattle.agg_model.specs.declared.breaker.Limits.{Limits}
use Rattle.agg_model.specs.declared.breaker.Tripped.{Tripped}
use Rattle.agg_model.specs.declared.breaker.Which.{Which}
use Rattle.agg_model.specs.declared.breaker.Which.TheVariants.{Request, Fielddata, Inflight, Parent}
use Rattle.agg_model.specs.declared.outcome.Failure.{Failure}
use Rattle.agg_spec.specs.Charges.{amount_at, one_at}
use Rattle.batch_reduce.specs.Reduced.{at_both}
use Rattle.breaker_words.specs.Accounts.{account, empty_account, joined_account}
use Rattle.breaker_words.specs.AfterStep.{after_join}
use Rattle.breaker_words.specs.Breakers.{counter_value}
use Rattle.breaker_words.specs.Passes.{PassModel, with_view}
use Rattle.breaker_words.specs.Views.{granted_of, hold_of, most_of, seen_of, trips_of}
use Rattle.breaker_words.specs.declared.view.Account.{Account}
use Rattle.breaker_words.specs.declared.view.View.{View}
use Rattle.pool_results.specs.Passes.{IsPassOf, IsSeen}
use Rattle.pool_results.specs.Pools.{Pool, ceiling_at, peak_at}
use Rattle.pool_results.specs.Runs.{failures_in, failure_by, left_by, left_in, shards_in, times_at, told_by}
use Rattle.pool_results.specs.declared.shard_run.ShardRun.{ShardRun}
use Rattle.pool_results.specs.Gathered.{first_of}

pub shards-append : (rs ss : List ShardRun) → shards_in (rs ++ ss) ≡ shards_in rs ++ shards_in ss
shards-append rs ss = map-append (λ (r : ShardRun). r.shard) rs ss

pub failures-append : (rs ss : List ShardRun) → failures_in (rs ++ ss) ≡ failures_in rs ++ failures_in ss
failures-append rs ss = flat_map-append (λ (r : ShardRun). failure_by r.shard r.refused) rs ss

pub left-append : (rs ss : List ShardRun) → left_in (rs ++ ss) ≡ left_in rs ++ left_in ss
left-append rs ss = flat_map-append (λ (r : ShardRun). left_by r.shard r.refused) rs ss

abbrev refusals_in : List ShardRun → List Tripped
refusals_in rs = map (λ (f : Failure). f.tripped) (failures_in rs)

refusals-append : (rs ss : List ShardRun) → refusals_in (rs ++ ss) ≡ refusals_in rs ++ refusals_in ss
refusals-append rs ss = ap (map (λ (f : Failure). f.tripped)) (failures-append rs ss) ∙ map-append (λ (f : Failure). f.tripped) (failures_in rs) (failures_in ss)

pub all-append : {A : Type 0} (P : A → Type 0) (xs ys : List A) → AllByRecursion P xs → AllByRecursion P ys → AllByRecursion P (xs ++ ys)
all-append P [] ys h g = g
all-append P (x ∷ xs) ys h g = (h.0, all-append P xs ys h.1 g)

pub all-weaker : {A : Type 0} (P Q : A → Type 0) → ((x : A) → P x → Q x) → (xs : List A) → AllByRecursion P xs → AllByRecursion Q xs
all-weaker P Q w [] h = tt
all-weaker P Q w (x ∷ xs) h = (w x h.0, all-weaker P Q w xs h.1)

-- a list that is empty is made of empty ones
pub front-empty : {A : Type 0} (xs ys : List A) → xs ++ ys ≡ [] → xs ≡ []
front-empty [] ys e = refl
front-empty (x ∷ xs) ys e = absurd (let no : ⊥ = cc in no)

pub back-empty : {A : Type 0} (xs ys : List A) → xs ++ ys ≡ [] → ys ≡ []
back-empty [] ys e = e
back-empty (x ∷ xs) ys e = absurd (let no : ⊥ = cc in no)

-- the account of two passes, the caps of which are above 0
module _ (a b : View) (some : 1 ≤ a.cap) (more : 1 ≤ b.cap) where
  abbrev now : View
  now = after_join a b

  seen-both : (x : Which) → seen_of now x ≡ max (seen_of a x) (seen_of b x)
  seen-both x = by_which x
    where
      yes : nat_le 1 a.cap ≡ true
      yes = le-leb 1 a.cap some

      also : nat_le 1 b.cap ≡ true
      also = le-leb 1 b.cap more

      by_caps : (m n : ℕ) → max (if nat_le 1 a.cap then m else 0) (if nat_le 1 b.cap then n else 0) ≡ max m n
      by_caps m n = λ i. max (if yes i then m else 0) (if also i then n else 0)

      by_which : (x : Which) → seen_of now x ≡ max (seen_of a x) (seen_of b x)
      by_which Request = by_caps _ _
      by_which Fielddata = by_caps _ _
      by_which Inflight = by_caps _ _
      by_which Parent = by_caps _ _

  pub hold-both : (x : Which) → hold_of now x ≡ hold_of a x + hold_of b x
  hold-both Request = refl
  hold-both Fielddata = refl
  hold-both Inflight = refl
  hold-both Parent = refl

  pub granted-both : (x : Which) → granted_of now x ≡ counter_value (granted_of a x + granted_of b x)
  granted-both Request = refl
  granted-both Fielddata = refl
  granted-both Inflight = refl
  granted-both Parent = refl

  trips-both : (x : Which) → trips_of now x ≡ counter_value (trips_of a x + trips_of b x)
  trips-both Request = refl
  trips-both Fielddata = refl
  trips-both Inflight = refl
  trips-both Parent = refl

  most-both : (x : Which) → most_of now x ≡ most_of a x + most_of b x
  most-both Request = refl
  most-both Fielddata = refl
  most-both Inflight = refl
  most-both Parent = refl

  -- what neither has touched
  empty-both : (p q : Bool) (m n : Account) → m ≡ empty_account → n ≡ empty_account → joined_account p q m n ≡ empty_account
  empty-both p q m n e d = (λ i. joined_account p q (e i) (d i)) ∙ none p q
    where
      none : (p q : Bool) → joined_account p q empty_account empty_account ≡ empty_account
      none true true = refl
      none true false = refl
      none false true = refl
      none false false = refl

  others-both : (x : Which) → account a.accounts x ≡ empty_account → account b.accounts x ≡ empty_account → account now.accounts x ≡ empty_account
  others-both Request e d = empty-both (nat_le 1 a.cap) (nat_le 1 b.cap) _ _ e d
  others-both Fielddata e d = empty-both (nat_le 1 a.cap) (nat_le 1 b.cap) _ _ e d
  others-both Inflight e d = empty-both (nat_le 1 a.cap) (nat_le 1 b.cap) _ _ e d
  others-both Parent e d = empty-both (nat_le 1 a.cap) (nat_le 1 b.cap) _ _ e d

  -- what one saw, both saw
  seen-one : (l : Limits) (t : Tripped) → IsSeen l a t → IsSeen l now t
  seen-one l t h = record { breaker = h.breaker; limit = h.limit; above = h.above; seen = let e = seen-both t.which in let low = h.seen in omega (arith, e, low) }

  seen-other : (l : Limits) (t : Tripped) → IsSeen l b t → IsSeen l now t
  seen-other l t h = record { breaker = h.breaker; limit = h.limit; above = h.above; seen = let e = seen-both t.which in let low = h.seen in omega (arith, e, low) }

pub at-sum : (m n : ℕ) (x : Which) → at_both (m + n) x ≡ at_both m x + at_both n x
at-sum m n Request = omega arith
at-sum m n Fielddata = omega arith
at-sum m n Inflight = omega arith
at-sum m n Parent = omega arith

-- 1 where the refusal names the breaker
abbrev named : Which → Tripped → ℕ
named x t = amount_at x (one_at t.which)

-- what is told of both is told of one of them, and is nothing where nothing is told of either
module _ (rs ss : List ShardRun) where
  told-all : (P : Tripped → Type 0) (t u : Option Tripped) → AllByRecursion P (told_by t rs) → AllByRecursion P (told_by u ss) → AllByRecursion P (told_by (first_of t u) (rs ++ ss))
  told-all P None None h g = subst (AllByRecursion P) (sym (refusals-append rs ss)) (all-append P (refusals_in rs) (refusals_in ss) h g)
  told-all P None (Some u) h g = (g.0, subst (AllByRecursion P) (sym (refusals-append rs ss)) (all-append P (refusals_in rs) (refusals_in ss) h g.1))
  told-all P (Some t) None h g = (h.0, subst (AllByRecursion P) (sym (refusals-append rs ss)) (all-append P (refusals_in rs) (refusals_in ss) h.1 g))
  told-all P (Some t) (Some u) h g = (h.0, subst (AllByRecursion P) (sym (refusals-append rs ss)) (all-append P (refusals_in rs) (refusals_in ss) h.1 g.1))

  times-append : (x : Which) → times_at x (refusals_in (rs ++ ss)) ≡ times_at x (refusals_in rs) + times_at x (refusals_in ss)
  times-append x = ap (times_at x) (refusals-append rs ss) ∙ sum_by-append (named x) (refusals_in rs) (refusals_in ss)

  times-told : (x : Which) (t u : Option Tripped) → times_at x (told_by (first_of t u) (rs ++ ss)) ≤ times_at x (told_by t rs) + times_at x (told_by u ss)
  times-told x None None = let e = times-append x in omega (arith, e)
  times-told x None (Some u) = let e = times-append x in let a = sum_by-cons (named x) u (refusals_in (rs ++ ss)) in let b = sum_by-cons (named x) u (refusals_in ss) in omega (arith, e, a, b)
  times-told x (Some t) None = let e = times-append x in let a = sum_by-cons (named x) t (refusals_in (rs ++ ss)) in let b = sum_by-cons (named x) t (refusals_in rs) in omega (arith, e, a, b)
  times-told x (Some t) (Some u) = let e = times-append x in let a = sum_by-cons (named x) t (refusals_in (rs ++ ss)) in let b = sum_by-cons (named x) t (refusals_in rs) in let c = sum_by-cons (named x) u (refusals_in ss) in omega (arith, e, a, b, c)

  told-none : (t u : Option Tripped) → told_by (first_of t u) (rs ++ ss) ≡ [] → (told_by t rs ≡ []) × (told_by u ss ≡ [])
  told-none None None e = let both = sym (refusals-append rs ss) ∙ e in (front-empty (refusals_in rs) (refusals_in ss) both, back-empty (refusals_in rs) (refusals_in ss) both)
  told-none None (Some u) e = absurd (let no : ⊥ = cc in no)
  told-none (Some t) u e = absurd (let no : ⊥ = cc in no)

module _ (p : Pool) (q : ℕ) (rs ss : List ShardRun) (t u : Option Tripped) (m n : ℕ) (a b : PassModel) (one : IsPassOf p q rs t m a) (two : IsPassOf p q ss u n b) where
  abbrev both : View
  both = after_join a.view b.view

  -- the joined pass is that of all tasks
  pub joined-passes : IsPassOf p q (rs ++ ss) (first_of t u) (m + n) (with_view a both)
  joined-passes = record {
    of = one.of;
    rest = refl;
    some = (let s = one.some in omega (arith, s));
    cap = (let s = ap (sum_by (ceiling_at p q)) (shards-append rs ss) ∙ sum_by-append (ceiling_at p q) (shards_in rs) (shards_in ss) in let c = one.cap in let d = two.cap in omega (arith, s, c, d));
    request = (let c = one.request in let d = two.request in omega (arith, c, d));
    parent = (let c = one.parent in let d = two.parent in omega (arith, c, d));
    most = λ x. (let s = ap (sum_by (peak_at p q)) (shards-append rs ss) ∙ sum_by-append (peak_at p q) (shards_in rs) (shards_in ss) in
        let e = most-both a.view b.view one.some two.some x in let c = one.most x in let d = two.most x in
        let sums = at-sum (2 * sum_by (peak_at p q) (shards_in rs)) (2 * sum_by (peak_at p q) (shards_in ss)) x in
        let same = ap (λ k. at_both k x) (let w : 2 * sum_by (peak_at p q) (shards_in (rs ++ ss)) ≡ 2 * sum_by (peak_at p q) (shards_in rs) + 2 * sum_by (peak_at p q) (shards_in ss) = omega (arith, s) in w) in
        omega (arith, e, c, d, sums, same));
    told = told-all rs ss (IsSeen p.words.limits both) t u
        (all-weaker (IsSeen p.words.limits a.view) (IsSeen p.words.limits both) (seen-one a.view b.view one.some two.some p.words.limits) (told_by t rs) one.told)
        (all-weaker (IsSeen p.words.limits b.view) (IsSeen p.words.limits both) (seen-other a.view b.view one.some two.some p.words.limits) (told_by u ss) two.told);
    trips = λ x. (let e = trips-both a.view b.view one.some two.some x in let c = one.trips x in let d = two.trips x in let k = times-told rs ss x t u in omega (arith, e, c, d, k));
    no_trips = λ none x. (let apart = told-none rs ss t u none in let e = trips-both a.view b.view one.some two.some x in let c = one.no_trips apart.0 x in let d = two.no_trips apart.1 x in omega (arith, e, c, d));
    others = λ x f g. others-both a.view b.view one.some two.some x (one.others x f g) (two.others x f g);
  }
