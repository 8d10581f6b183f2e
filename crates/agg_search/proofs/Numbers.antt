-- Numbers of shards that follow one another, and those of them that did not fail.
use Rattle.std.specs.Prelude.{◌≡◌, refl, ℕ, zero, suc, ◌+◌, ◌-◌, ◌<◌, ◌≤◌, ◌==◌, ◌||◌, not, Bool, true, false, if◌then◌else◌, List, [], ◌∷◌, ◌++◌, filter, map, take, drop}
use Rattle.std.specs.List.{range_with_len}
use Rattle.std.proofs.Common.{◌∙◌, ap, arith}
use Rattle.std.proofs.lemmas.Bool.{eq-eqb, eqb-true}
use Rattle.std.proofs.lemmas.List.Elements.{filter-append}
use Rattle.agg_model.specs.declared.breaker.Tripped.{Tripped}
use Rattle.agg_model.specs.declared.outcome.Failure.{Failure}
use Rattle.agg_spec.specs.Failures.{AreAscending, AreFailures, has_failed}

-- one number more at the end
pub range-push : (a n : ℕ) → range_with_len a (suc n) ≡ range_with_len a n ++ (a + n) ∷ []
range-push a zero = ap (λ k. k ∷ []) (omega arith)
range-push a (suc n) = ap (λ ks. a ∷ ks) (range-push (a + 1) n ∙ ap (λ k. range_with_len (a + 1) n ++ k ∷ []) (omega arith))

-- numbers in two parts
pub range-append : (a m n : ℕ) → range_with_len a (m + n) ≡ range_with_len a m ++ range_with_len (a + m) n
range-append a zero n = ap (range_with_len a) (let e : zero + n ≡ n = omega arith in e) ∙ ap (λ b. range_with_len b n) (let e : a ≡ a + zero = omega arith in e)
range-append a (suc m) n =
    ap (range_with_len a) (let e : suc m + n ≡ suc (m + n) = omega arith in e)
    ∙ ap (λ ks. a ∷ ks) (range-append (a + 1) m n ∙ ap (λ b. range_with_len (a + 1) m ++ range_with_len b n) (let e : a + 1 + m ≡ a + suc m = omega arith in e))

pub drop-range : (a n k : ℕ) → drop k (range_with_len a n) ≡ range_with_len (a + k) (n - k)
drop-range a n zero = ap (λ b. range_with_len b n) (let e : a ≡ a + zero = omega arith in e) ∙ ap (range_with_len (a + zero)) (let e : n ≡ n - zero = omega arith in e)
drop-range a zero (suc k) = ap (range_with_len (a + suc k)) (let e : 0 ≡ zero - suc k = omega arith in e)
drop-range a (suc n) (suc k) =
    drop-range (a + 1) n k
    ∙ ap (λ b. range_with_len b (n - k)) (let e : a + 1 + k ≡ a + suc k = omega arith in e)
    ∙ ap (range_with_len (a + suc k)) (let e : n - k ≡ suc n - suc k = omega arith in e)

pub take-range : (a n k : ℕ) → k ≤ n → take k (range_with_len a n) ≡ range_with_len a k
take-range a n zero le = refl
take-range a zero (suc k) le = absurd (omega arith)
take-range a (suc n) (suc k) le = ap (λ ks. a ∷ ks) (take-range (a + 1) n k (omega arith))

pub take-range-all : (a n k : ℕ) → n ≤ k → take k (range_with_len a n) ≡ range_with_len a n
take-range-all a zero zero le = refl
take-range-all a zero (suc k) le = refl
take-range-all a (suc n) zero le = absurd (omega arith)
take-range-all a (suc n) (suc k) le = ap (λ ks. a ∷ ks) (take-range-all (a + 1) n k (omega arith))

pub drop-map : {A B : Type 0} (f : A → B) (k : ℕ) (xs : List A) → drop k (map f xs) ≡ map f (drop k xs)
drop-map f zero xs = refl
drop-map f (suc k) [] = refl
drop-map f (suc k) (x ∷ xs) = drop-map f k xs

pub take-map : {A B : Type 0} (f : A → B) (k : ℕ) (xs : List A) → take k (map f xs) ≡ map f (take k xs)
take-map f zero xs = refl
take-map f (suc k) [] = refl
take-map f (suc k) (x ∷ xs) = ap (λ ys. f x ∷ ys) (take-map f k xs)

-- failures of shards before a place
pub ascending-more : (least n : ℕ) (fs : List Failure) → AreAscending least n fs → AreAscending least (n + 1) fs
ascending-more least n [] all = tt
ascending-more least n (f ∷ fs) (low, high, rest) = (low, omega arith, ascending-more (f.shard + 1) n fs rest)

pub ascending-push : (least n : ℕ) (fs : List Failure) (t : Tripped) → least ≤ n → AreAscending least n fs → AreAscending least (n + 1) (fs ++ record { shard = n; tripped = t } ∷ [])
ascending-push least n [] t le all = (le, omega arith, tt)
ascending-push least n (f ∷ fs) t le (low, high, rest) = (low, omega arith, ascending-push (f.shard + 1) n fs t (omega arith) rest)

not-same : (a b : ℕ) → a < b → (a == b) ≡ false
not-same a b lt = by_test (a == b) refl
  where
    by_test : (x : Bool) → (a == b) ≡ x → (a == b) ≡ false
    by_test true e = let same = eqb-true a b e in absurd (omega arith)
    by_test false e = e

not-same-over : (a b : ℕ) → a < b → (b == a) ≡ false
not-same-over a b lt = by_test (b == a) refl
  where
    by_test : (x : Bool) → (b == a) ≡ x → (b == a) ≡ false
    by_test true e = let same = eqb-true b a e in absurd (omega arith)
    by_test false e = e

-- a shard behind them has not failed
pub behind-all : (least n : ℕ) (fs : List Failure) → AreAscending least n fs → has_failed fs n ≡ false
behind-all least n [] all = refl
behind-all least n (f ∷ fs) (low, high, rest) = ap (λ b. b || has_failed fs n) (not-same f.shard n high) ∙ behind-all (f.shard + 1) n fs rest

any-push : (fs : List Failure) (f : Failure) (s : ℕ) → has_failed (fs ++ f ∷ []) s ≡ (has_failed fs s || (f.shard == s || false))
any-push [] f s = refl
any-push (g ∷ gs) f s = ap (λ b. (g.shard == s) || b) (any-push gs f s) ∙ or-group (g.shard == s) (has_failed gs s) (f.shard == s || false)
  where
    or-group : (a b c : Bool) → (a || (b || c)) ≡ ((a || b) || c)
    or-group true b c = refl
    or-group false b c = refl

or-nothing : (a b : Bool) → b ≡ false → (a || (b || false)) ≡ a
or-nothing true b e = refl
or-nothing false b e = ap (λ x. x || false) e

or-this : (a b : Bool) → b ≡ true → (a || (b || false)) ≡ true
or-this true b e = refl
or-this false b e = ap (λ x. x || false) e

-- a new failure concerns no shard before it
pub before-same : (fs : List Failure) (n s : ℕ) (t : Tripped) → s < n → has_failed (fs ++ record { shard = n; tripped = t } ∷ []) s ≡ has_failed fs s
before-same fs n s t lt = any-push fs (record { shard = n; tripped = t }) s ∙ or-nothing (has_failed fs s) (n == s) (not-same-over s n lt)

pub failed-here : (fs : List Failure) (n : ℕ) (t : Tripped) → has_failed (fs ++ record { shard = n; tripped = t } ∷ []) n ≡ true
failed-here fs n t = any-push fs (record { shard = n; tripped = t }) n ∙ or-this (has_failed fs n) (n == n) (eq-eqb n n refl)

abbrev pub left_before : List Failure → ℕ → List ℕ
left_before fs n = filter (λ shard. not (has_failed fs shard)) (range_with_len 0 n)

filter-same : (p q : ℕ → Bool) (a n : ℕ) → ((s : ℕ) → s < a + n → p s ≡ q s) → filter p (range_with_len a n) ≡ filter q (range_with_len a n)
filter-same p q a zero same = refl
filter-same p q a (suc n) same =
    let rest = filter-same p q (a + 1) n (λ s lt. same s (omega arith)) in
    ap (λ b. if b then a ∷ filter p (range_with_len (a + 1) n) else filter p (range_with_len (a + 1) n)) (same a (omega arith))
    ∙ ap (λ xs. if q a then a ∷ xs else xs) rest

-- the shards that are left, once one more has been looked at
pub left-more : (fs : List Failure) (n : ℕ) → AreFailures n fs → left_before fs (n + 1) ≡ left_before fs n ++ n ∷ []
left-more fs n all =
    ap (left_before fs) (let e : n + 1 ≡ suc n = omega arith in e)
    ∙ ap (filter (λ shard. not (has_failed fs shard))) (range-push 0 n)
    ∙ filter-append (λ shard. not (has_failed fs shard)) (range_with_len 0 n) ((0 + n) ∷ [])
    ∙ ap (λ k. left_before fs n ++ filter (λ shard. not (has_failed fs shard)) (k ∷ [])) (let e : 0 + n ≡ n = omega arith in e)
    ∙ ap (λ b. left_before fs n ++ (if not b then n ∷ [] else [])) (behind-all 0 n fs all)

pub left-failed : (fs : List Failure) (n : ℕ) (t : Tripped) → left_before (fs ++ record { shard = n; tripped = t } ∷ []) (n + 1) ≡ left_before fs n
left-failed fs n t =
    let more = fs ++ record { shard = n; tripped = t } ∷ [] in
    ap (left_before more) (let e : n + 1 ≡ suc n = omega arith in e)
    ∙ ap (filter (λ shard. not (has_failed more shard))) (range-push 0 n)
    ∙ filter-append (λ shard. not (has_failed more shard)) (range_with_len 0 n) ((0 + n) ∷ [])
    ∙ ap (λ k. left_before more n ++ filter (λ shard. not (has_failed more shard)) (k ∷ [])) (let e : 0 + n ≡ n = omega arith in e)
    ∙ ap (λ b. left_before more n ++ (if not b then n ∷ [] else [])) (failed-here fs n t)
    ∙ append-nothing (left_before more n)
    ∙ filter-same (λ shard. not (has_failed more shard)) (λ shard. not (has_failed fs shard)) 0 n (λ s lt. ap not (before-same fs n s t (omega arith)))
  where
    append-nothing : (xs : List ℕ) → xs ++ [] ≡ xs
    append-nothing [] = refl
    append-nothing (x ∷ xs) = ap (λ ys. x ∷ ys) (append-nothing xs)
