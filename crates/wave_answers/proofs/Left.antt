-- How many shards are left.
use Rattle.std.specs.Prelude.{◌≡◌, ◌≢◌, ◌≤◌, ◌<◌, refl, ℕ, zero, suc, ◌+◌, ◌==◌, ◌||◌, not, Bool, true, false, if◌then◌else◌, List, [], ◌∷◌, filter, length}
use Rattle.std.specs.List.{range_with_len}
use Rattle.std.proofs.Common.{◌∙◌, sym, ap, subst, arith, ⊎_elim}
use Rattle.std.proofs.lemmas.Bool.{cases_lt, eq-eqb, eqb-true}
use Rattle.agg_model.specs.declared.outcome.Failure.{Failure}
use Rattle.agg_spec.specs.Failures.{AreAscending, AreFailures, has_failed, unfailed}
use Rattle.agg_spec.specs.Index.{Index}

apart : (a b : ℕ) → (a ≡ b → ⊥) → (a == b) ≡ false
apart a b differ = by_test (a == b) refl
  where
    by_test : (x : Bool) → (a == b) ≡ x → (a == b) ≡ false
    by_test true e = absurd (differ (eqb-true a b e))
    by_test false e = e

-- a shard ahead of them has not failed
ahead : (least n s : ℕ) (fs : List Failure) → AreAscending least n fs → s < least → has_failed fs s ≡ false
ahead least n s [] all lt = refl
ahead least n s (f ∷ fs) (low, high, rest) lt =
    ap (λ b. b || has_failed fs s) (apart f.shard s (λ e. omega arith)) ∙ ahead (f.shard + 1) n s fs rest (omega arith)

filter-same : (p q : ℕ → Bool) (a n : ℕ) → ((s : ℕ) → a ≤ s → p s ≡ q s) → filter p (range_with_len a n) ≡ filter q (range_with_len a n)
filter-same p q a zero same = refl
filter-same p q a (suc n) same =
    let rest = filter-same p q (a + 1) n (λ s le. same s (omega arith)) in
    ap (λ b. if b then a ∷ filter p (range_with_len (a + 1) n) else filter p (range_with_len (a + 1) n)) (same a (omega arith))
    ∙ ap (λ xs. if q a then a ∷ xs else xs) rest

abbrev left_from : ℕ → ℕ → List Failure → List ℕ
left_from a m fs = filter (λ s. not (has_failed fs s)) (range_with_len a m)

abbrev is_left : List Failure → ℕ → Bool
is_left fs s = not (has_failed fs s)

-- the first failure is behind the number a
count-later : (m a : ℕ) (f : Failure) (fs : List Failure) → AreAscending a (a + suc m) (f ∷ fs) → a < f.shard
    → length (left_from (a + 1) m (f ∷ fs)) + length (f ∷ fs) ≡ m → length (left_from a (suc m) (f ∷ fs)) + length (f ∷ fs) ≡ suc m
count-later m a f fs (low, high, rest) lt more =
    let kept = ahead (a + 1) (a + suc m) a (f ∷ fs) (omega arith, high, rest) (omega arith) in
    subst (λ b. length (if not b then a ∷ left_from (a + 1) m (f ∷ fs) else left_from (a + 1) m (f ∷ fs)) + length (f ∷ fs) ≡ suc m) (sym kept) (omega (arith, more))

-- it is the number a
count-here : (m a : ℕ) (f : Failure) (fs : List Failure) → f.shard ≡ a → length (left_from (a + 1) m fs) + length fs ≡ m → length (left_from a (suc m) (f ∷ fs)) + length (f ∷ fs) ≡ suc m
count-here m a f fs same more =
    let failed : has_failed (f ∷ fs) a ≡ true = ap (λ b. b || has_failed fs a) (eq-eqb f.shard a same) in
    let fewer = ap length (filter-same (is_left (f ∷ fs)) (is_left fs) (a + 1) m
    (λ s above. ap (λ b. not (b || has_failed fs s)) (apart f.shard s (λ e. omega arith)))) in
    subst (λ b. length (if not b then a ∷ left_from (a + 1) m (f ∷ fs) else left_from (a + 1) m (f ∷ fs)) + length (f ∷ fs) ≡ suc m) (sym failed) (omega (arith, more, fewer))

-- the numbers from a on that no failure names, and the failures
left-count : (m a : ℕ) (fs : List Failure) → AreAscending a (a + m) fs → length (left_from a m fs) + length fs ≡ m
left-count zero a [] all = refl
left-count zero a (f ∷ fs) (low, high, rest) = absurd (omega arith)
left-count (suc m) a [] all = let more = left-count m (a + 1) [] tt in omega (arith, more)
left-count (suc m) a (f ∷ fs) (low, high, rest) =
    let end : a + suc m ≡ a + 1 + m = omega arith in
    ⊎_elim
    (λ (lt : a < f.shard). count-later m a f fs (low, high, rest) lt (left-count m (a + 1) (f ∷ fs) (subst (λ n. AreAscending (a + 1) n (f ∷ fs)) end (omega arith, high, rest))))
    (λ (le : f.shard ≤ a). (let same : f.shard ≡ a = omega arith in
    count-here m a f fs same (left-count m (a + 1) fs (subst (λ k. AreAscending k (a + 1 + m) fs) (ap (λ k. k + 1) same) (subst (λ n. AreAscending (f.shard + 1) n fs) end rest)))))
    (cases_lt a f.shard)

-- the shards that are left, and those that are not
pub count-left : (index : Index) (fs : List Failure) → AreFailures (length index.shards) fs → length (unfailed index fs) + length fs ≡ length index.shards
count-left index fs all =
    left-count (length index.shards) 0 fs (subst (λ n. AreAscending 0 n fs) (let e : length index.shards ≡ 0 + length index.shards = omega arith in e) all)

pub empty-is : {A : Type 0} (xs : List A) → length xs ≡ 0 → xs ≡ []
empty-is [] e = refl
empty-is (x ∷ xs) e = absurd (omega arith)

pub none-left : (index : Index) (fs : List Failure) → AreFailures (length index.shards) fs → length index.shards ≤ length fs → unfailed index fs ≡ []
none-left index fs all many = let c = count-left index fs all in empty-is (unfailed index fs) (omega (arith, c))

pub some-left : (index : Index) (fs : List Failure) → AreFailures (length index.shards) fs → length fs < length index.shards → unfailed index fs ≢ []
some-left index fs all few none = let c = count-left index fs all in let n = ap length none in omega (arith, c, n)

-- where no shard of some is left, there are failures
pub some-failed : (index : Index) (fs : List Failure) → AreFailures (length index.shards) fs → 1 ≤ length index.shards → unfailed index fs ≡ [] → 1 ≤ length fs
some-failed index fs all some none = let c = count-left index fs all in let n = ap length none in omega (arith, c, n)
