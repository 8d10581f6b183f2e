-- Sums over all results are sums over all tasks.
use Rattle.std.specs.Prelude.{◌≡◌, refl, ℕ, zero, suc, ◌+◌, ◌*◌, ◌≤◌, ◌<◌, ◌==◌, true, false, cond, List, [], ◌∷◌, filter, length, sum, sum_by, slice_index}
use Rattle.std.specs.List.{AllByRecursion, range_with_len}
use Rattle.std.proofs.Common.{sym, ◌∙◌, ap, arith, ⊎_elim, suc-mul}
use Rattle.std.proofs.lemmas.Bool.{eq-eqb, ne_eqb, eqb-true, cases_Bool}
use Rattle.std.proofs.lemmas.List.Sums.{sum_by-cons}
use mathlib.Core.Logic.{dite}
use native.Mathlib.Decide.{ℕ_discrete}
use Rattle.list_laws.proofs.Lists.{sum_by-flat_map}
use Rattle.list_laws.proofs.Sums.{sum_by-exchange, sum_by-where}
use Rattle.shard_pool.specs.TaskResults.{HaveEachTask}
use Rattle.shard_pool.proofs.Shards.{shards-sum}

-- sums of the same numbers
pub sum-same : {A : Type 0} (f g : A → ℕ) (xs : List A) → ((x : A) → f x ≡ g x) → sum_by f xs ≡ sum_by g xs
sum-same f g [] h = refl
sum-same f g (x ∷ xs) h = let a = sum_by-cons f x xs in let b = sum_by-cons g x xs in let rest = sum-same f g xs h in let here = h x in omega (arith, a, b, rest, here)

-- the same over a range
pub sum-range : (f g : ℕ → ℕ) (a n : ℕ) → ((k : ℕ) → a ≤ k → k < a + n → f k ≡ g k) → sum_by f (range_with_len a n) ≡ sum_by g (range_with_len a n)
sum-range f g a zero h = refl
sum-range f g a (suc n) h =
    let l = sum_by-cons f a (range_with_len (a + 1) n) in let r = sum_by-cons g a (range_with_len (a + 1) n) in
    let rest = sum-range f g (a + 1) n (λ k low high. h k (omega (arith, low)) (omega (arith, high))) in let here = h a (omega arith) (omega arith) in
    omega (arith, l, r, rest, here)

-- one number of a range, and none past it
pick-none : (v k a m : ℕ) → k < a → sum_by (λ q. cond (k == q) v 0) (range_with_len a m) ≡ 0
pick-none v k a zero h = refl
pick-none v k a (suc m) h =
    let rest = pick-none v k (a + 1) m (omega (arith, h)) in let all = sum_by-cons (λ q. cond (k == q) v 0) a (range_with_len (a + 1) m) in
    let here : cond (k == a) v 0 ≡ 0 = ap (λ b. cond b v 0) (ne_eqb k a (λ e. omega (arith, e, h))) in omega (arith, rest, all, here)

pick : (v k a m : ℕ) → a ≤ k → k < a + m → sum_by (λ q. cond (k == q) v 0) (range_with_len a m) ≡ v
pick v k a zero low high = absurd (omega (arith, low, high))
pick v k a (suc m) low high = let all = sum_by-cons (λ q. cond (k == q) v 0) a (range_with_len (a + 1) m) in dite (ℕ_discrete k a)
    (λ e. let here : cond (k == a) v 0 ≡ v = ap (λ b. cond b v 0) (eq-eqb k a e) in let rest = pick-none v k (a + 1) m (omega (arith, e)) in omega (arith, all, here, rest))
    (λ e. let here : cond (k == a) v 0 ≡ 0 = ap (λ b. cond b v 0) (ne_eqb k a e) in let rest = pick v k (a + 1) m (omega (arith, e, low)) (omega (arith, high)) in omega (arith, all, here, rest))

module _ {X : Type 0} (search : X → ℕ) where
  abbrev Below : ℕ → List X → Type 0
  Below m xs = AllByRecursion (λ x. search x < m) xs

  -- each result counts at its search
  each-picked : (g : X → ℕ) (m : ℕ) (xs : List X) → Below m xs → sum_by g xs ≡ sum_by (λ x. sum_by (λ q. cond (search x == q) (g x) 0) (range_with_len 0 m)) xs
  each-picked g m [] h = refl
  each-picked g m (x ∷ xs) h =
      let a = sum_by-cons g x xs in let b = sum_by-cons (λ x. sum_by (λ q. cond (search x == q) (g x) 0) (range_with_len 0 m)) x xs in
      let one = pick (g x) (search x) 0 m (omega arith) (let k = h.0 in omega (arith, k)) in let rest = each-picked g m xs h.1 in
      omega (arith, a, b, one, rest)

  -- a sum over results, search by search
  pub by-search : (g : X → ℕ) (m : ℕ) (xs : List X) → Below m xs → sum_by g xs ≡ sum_by (λ q. sum_by g (filter (λ x. search x == q) xs)) (range_with_len 0 m)
  by-search g m xs h =
      each-picked g m xs h ∙ sum_by-exchange (λ x q. cond (search x == q) (g x) 0) xs (range_with_len 0 m)
      ∙ sum-same (λ q. sum_by (λ x. cond (search x == q) (g x) 0) xs) (λ q. sum_by g (filter (λ x. search x == q) xs)) (range_with_len 0 m) (λ q. sym (sum_by-where g (λ x. search x == q) xs))

-- over those of one search
own : {X : Type 0} (search : X → ℕ) (shards : X → List ℕ) (f : ℕ → ℕ → ℕ) (q : ℕ) (xs : List X)
    → sum_by (λ x. sum_by (f (search x)) (shards x)) (filter (λ x. search x == q) xs) ≡ sum_by (λ x. sum_by (f q) (shards x)) (filter (λ x. search x == q) xs)
own search shards f q [] = refl
own search shards f q (x ∷ xs) = ⊎_elim
    (λ (e : (search x == q) ≡ true).
    let there = filter (λ x. search x == q) xs in
    let a = sum_by-cons (λ x. sum_by (f (search x)) (shards x)) x there in let b = sum_by-cons (λ x. sum_by (f q) (shards x)) x there in
    let rest = own search shards f q xs in
    let here : sum_by (f (search x)) (shards x) ≡ sum_by (f q) (shards x) = ap (λ r. sum_by (f r) (shards x)) (eqb-true (search x) q e) in
    let l = ap (λ c. sum_by (λ x. sum_by (f (search x)) (shards x)) (cond c (x ∷ there) there)) e in
    let r = ap (λ c. sum_by (λ x. sum_by (f q) (shards x)) (cond c (x ∷ there) there)) e in
    l ∙ (a ∙ (omega (arith, rest, here)) ∙ sym b) ∙ sym r)
    (λ (e : (search x == q) ≡ false).
    let there = filter (λ x. search x == q) xs in
    let l = ap (λ c. sum_by (λ x. sum_by (f (search x)) (shards x)) (cond c (x ∷ there) there)) e in
    let r = ap (λ c. sum_by (λ x. sum_by (f q) (shards x)) (cond c (x ∷ there) there)) e in
    l ∙ own search shards f q xs ∙ sym r)
    (cases_Bool (search x == q))

-- a sum over the shards of all results, with the search of each, is the sum over all tasks
pub all-tasks : {X : Type 0} (search : X → ℕ) (shards : X → List ℕ) (m n : ℕ) (xs : List X) → HaveEachTask search shards m n xs → (f : ℕ → ℕ → ℕ)
    → sum_by (λ x. sum_by (f (search x)) (shards x)) xs ≡ sum_by (λ q. sum_by (f q) (range_with_len 0 n)) (range_with_len 0 m)
all-tasks search shards m n xs each f =
    by-search search (λ x. sum_by (f (search x)) (shards x)) m xs each.searches
    ∙ sum-range _ _ 0 m (λ q low high.
    own search shards f q xs ∙ sym (sum_by-flat_map (f q) shards (filter (λ x. search x == q) xs)) ∙ shards-sum search shards n m xs each q (omega (arith, high)) (f q))

-- a range in two parts
range-parts : (f : ℕ → ℕ) (a j k : ℕ) → sum_by f (range_with_len a (j + k)) ≡ sum_by f (range_with_len a j) + sum_by f (range_with_len (a + j) k)
range-parts f a zero k = ap (λ z. sum_by f (range_with_len a z)) (let e : 0 + k ≡ k = omega arith in e) ∙ ap (λ z. sum_by f (range_with_len z k)) (let e : a ≡ a + 0 = omega arith in e) ∙ (let z : sum_by f (range_with_len (a + 0) k) ≡ 0 + sum_by f (range_with_len (a + 0) k) = omega arith in z)
range-parts f a (suc j) k =
    let l = sum_by-cons f a (range_with_len (a + 1) (j + k)) in let r = sum_by-cons f a (range_with_len (a + 1) j) in
    let rest = range-parts f (a + 1) j k in
    let there : sum_by f (range_with_len (a + 1 + j) k) ≡ sum_by f (range_with_len (a + suc j) k) = ap (λ z. sum_by f (range_with_len z k)) (let e : a + 1 + j ≡ a + suc j = omega arith in e) in
    let more : sum_by f (range_with_len a (suc j + k)) ≡ sum_by f (range_with_len a (suc (j + k))) = ap (λ z. sum_by f (range_with_len a z)) (let e : suc j + k ≡ suc (j + k) = omega arith in e) in
    omega (arith, l, r, rest, there, more)

-- a range further on
range-on : (f : ℕ → ℕ) (b a n : ℕ) → sum_by (λ s. f (b + s)) (range_with_len a n) ≡ sum_by f (range_with_len (b + a) n)
range-on f b a zero = refl
range-on f b a (suc n) =
    let l = sum_by-cons (λ s. f (b + s)) a (range_with_len (a + 1) n) in let r = sum_by-cons f (b + a) (range_with_len (b + a + 1) n) in
    let rest = range-on f b (a + 1) n in
    let there : sum_by f (range_with_len (b + (a + 1)) n) ≡ sum_by f (range_with_len (b + a + 1) n) = ap (λ z. sum_by f (range_with_len z n)) (let e : b + (a + 1) ≡ b + a + 1 = omega arith in e) in
    omega (arith, l, r, rest, there)

-- rows of n numbers, one after another
pub all-rows : (f : ℕ → ℕ) (n a m : ℕ) → sum_by (λ q. sum_by (λ s. f (q * n + s)) (range_with_len 0 n)) (range_with_len a m) ≡ sum_by f (range_with_len (a * n) (m * n))
all-rows f n a zero = ap (λ z. sum_by f (range_with_len (a * n) z)) (let e : 0 ≡ 0 * n = omega arith in e)
all-rows f n a (suc m) =
    let l = sum_by-cons (λ q. sum_by (λ s. f (q * n + s)) (range_with_len 0 n)) a (range_with_len (a + 1) m) in
    let here = range-on f (a * n) 0 n in
    let at : sum_by f (range_with_len (a * n + 0) n) ≡ sum_by f (range_with_len (a * n) n) = ap (λ z. sum_by f (range_with_len z n)) (let e : a * n + 0 ≡ a * n = omega arith in e) in
    let rest = all-rows f n (a + 1) m in
    let next : sum_by f (range_with_len ((a + 1) * n) (m * n)) ≡ sum_by f (range_with_len (a * n + n) (m * n)) = ap (λ z. sum_by f (range_with_len z (m * n))) (let one = suc-mul a n in let e : (a + 1) * n ≡ a * n + n = ap (λ z. z * n) (let u : a + 1 ≡ suc a = omega arith in u) ∙ one in e) in
    let parts = range-parts f (a * n) n (m * n) in
    let whole : sum_by f (range_with_len (a * n) (n + m * n)) ≡ sum_by f (range_with_len (a * n) (suc m * n)) = ap (λ z. sum_by f (range_with_len (a * n) z)) (let one = suc-mul m n in let e : n + m * n ≡ suc m * n = omega (arith, one) in e) in
    omega (arith, l, here, at, rest, next, parts, whole)

-- the numbers of a list by their places
places : (ns : List ℕ) → sum_by (slice_index ns) (range_with_len 0 (length ns)) ≡ sum ns
places [] = refl
places (x ∷ ns) =
    let l = sum_by-cons (slice_index (x ∷ ns)) 0 (range_with_len 1 (length ns)) in let r = sum_by-cons (λ z. z) x ns in
    let rest = places ns in let on = range-on (slice_index (x ∷ ns)) 1 0 (length ns) in
    let same : sum_by (λ s. slice_index (x ∷ ns) (1 + s)) (range_with_len 0 (length ns)) ≡ sum_by (slice_index ns) (range_with_len 0 (length ns)) = sum-same (λ s. slice_index (x ∷ ns) (1 + s)) (slice_index ns) (range_with_len 0 (length ns)) (λ s. ap (slice_index (x ∷ ns)) (let e : 1 + s ≡ suc s = omega arith in e)) in
    omega (arith, l, r, rest, on, same)

-- a list that has a number for each task: what these add up to, row by row
pub all-numbers : (ns : List ℕ) (m n : ℕ) → length ns ≡ m * n → sum_by (λ q. sum_by (λ s. slice_index ns (q * n + s)) (range_with_len 0 n)) (range_with_len 0 m) ≡ sum ns
all-numbers ns m n e =
    all-rows (slice_index ns) n 0 m ∙ ap (λ z. sum_by (slice_index ns) (range_with_len z (m * n))) (let z : 0 * n ≡ 0 = omega arith in z)
    ∙ ap (λ z. sum_by (slice_index ns) (range_with_len 0 z)) (sym e) ∙ places ns

-- so all results together have all of it
pub all-results : {X : Type 0} (search : X → ℕ) (shards : X → List ℕ) (m n : ℕ) (xs : List X) → HaveEachTask search shards m n xs → (ns : List ℕ) → length ns ≡ m * n
    → sum_by (λ x. sum_by (λ s. slice_index ns (search x * n + s)) (shards x)) xs ≡ sum ns
all-results search shards m n xs each ns e = all-tasks search shards m n xs each (λ q s. slice_index ns (q * n + s)) ∙ all-numbers ns m n e
