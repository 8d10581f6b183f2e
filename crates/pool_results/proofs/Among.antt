-- Numbers of shards that stand each once are among all numbers of shards.
use Rattle.std.specs.Prelude.{◌≡◌, refl, ◌≤◌, ◌<◌, ℕ, zero, suc, ◌+◌, ◌*◌, ◌==◌, List, [], ◌∷◌, ◌++◌, sum_by, Option, Some, None}
use Rattle.std.specs.List.{AllByRecursion, range_with_len}
use Rattle.std.proofs.Common.{sym, ◌∙◌, ap, arith}
use Rattle.std.proofs.Math.Nat.{add-mul}
use Rattle.std.proofs.lemmas.Bool.{eq-eqb, ne_eqb}
use Rattle.std.proofs.lemmas.List.Sums.{sum_by-cons, sum_by-le-sum_by}
use mathlib.Core.Logic.{dite}
use native.Mathlib.Decide.{ℕ_discrete}
use Rattle.list_laws.specs.Among.{AreAmong}
use Rattle.agg_model.specs.declared.breaker.Tripped.{Tripped}
use Rattle.arrival_moves.specs.Lists.{one_if, times}
use Rattle.pool_results.specs.Pools.{Pool, shard_count}
use Rattle.pool_results.specs.Runs.{left_by, left_in, shards_in}
use Rattle.pool_results.specs.declared.shard_run.ShardRun.{ShardRun}

-- nothing of numbers from m on is below them
none-below : (f : ℕ → ℕ) (s m n : ℕ) → s < m → sum_by (λ k. one_if (s == k) * f k) (range_with_len m n) ≡ 0
none-below f s m zero h = refl
none-below f s m (suc n) h =
    let rest = none-below f s (m + 1) n (omega arith) in
    let here : one_if (s == m) ≡ 0 = ap one_if (ne_eqb s m (λ e. omega (arith, e, h))) in
    let none : one_if (s == m) * f m ≡ 0 * f m = ap (λ k. k * f m) here in
    let all = sum_by-cons (λ k. one_if (s == k) * f k) m (range_with_len (m + 1) n) in
    omega (arith, rest, none, all)

-- one number counts once
once-there : (f : ℕ → ℕ) (s m n : ℕ) → m ≤ s → s < m + n → sum_by (λ k. one_if (s == k) * f k) (range_with_len m n) ≡ f s
once-there f s m zero low high = absurd (omega (arith, low, high))
once-there f s m (suc n) low high = dite (ℕ_discrete s m)
    (λ same.
    (let rest = none-below f s (m + 1) n (omega (arith, same)) in
    let here : one_if (s == m) ≡ 1 = ap one_if (eq-eqb s m same) in
    let one : one_if (s == m) * f m ≡ f s = ap (λ k. k * f m) here ∙ (let u : 1 * f m ≡ f m = omega arith in u) ∙ sym (ap f same) in
    let all = sum_by-cons (λ k. one_if (s == k) * f k) m (range_with_len (m + 1) n) in
    omega (arith, rest, one, all)))
    (λ other.
    (let apart : m < s = let d : (s ≡ m) → ⊥ = other in dite-low s m low d in
    let rest = once-there f s (m + 1) n (omega (arith, apart)) (omega (arith, high)) in
    let here : one_if (s == m) ≡ 0 = ap one_if (ne_eqb s m other) in
    let none : one_if (s == m) * f m ≡ 0 * f m = ap (λ k. k * f m) here in
    let all = sum_by-cons (λ k. one_if (s == k) * f k) m (range_with_len (m + 1) n) in
    omega (arith, rest, none, all)))
  where
    dite-low : (s m : ℕ) → m ≤ s → ((s ≡ m) → ⊥) → m < s
    dite-low s m low d = omega (arith, low, d)

-- numbers below n, counted number by number
counted : (f : ℕ → ℕ) (n : ℕ) (ns : List ℕ) → AllByRecursion (λ s. s < n) ns → sum_by f ns ≡ sum_by (λ k. times k ns * f k) (range_with_len 0 n)
counted f n [] h = sym (nothing 0 n)
  where
    nothing : (m n : ℕ) → sum_by (λ k. times k [] * f k) (range_with_len m n) ≡ 0
    nothing m zero = refl
    nothing m (suc n) = let rest = nothing (m + 1) n in let all = sum_by-cons (λ k. times k [] * f k) m (range_with_len (m + 1) n) in let z : times m [] * f m ≡ 0 * f m = refl in omega (arith, rest, all, z)
counted f n (s ∷ ns) h =
    let here = sum_by-cons f s ns in
    let rest = counted f n ns h.1 in
    let one = once-there f s 0 n (omega arith) (let k = h.0 in omega (arith, k)) in
    let both = two-sums 0 n in
    omega (arith, here, rest, one, both)
  where
    two-sums : (m k : ℕ) → sum_by (λ j. times j (s ∷ ns) * f j) (range_with_len m k) ≡ sum_by (λ j. one_if (s == j) * f j) (range_with_len m k) + sum_by (λ j. times j ns * f j) (range_with_len m k)
    two-sums m zero = refl
    two-sums m (suc k) =
        let rest = two-sums (m + 1) k in
        let a = sum_by-cons (λ j. times j (s ∷ ns) * f j) m (range_with_len (m + 1) k) in
        let b = sum_by-cons (λ j. one_if (s == j) * f j) m (range_with_len (m + 1) k) in
        let c = sum_by-cons (λ j. times j ns * f j) m (range_with_len (m + 1) k) in
        let t = sum_by-cons (λ x. one_if (x == m)) s ns in
        let d : times m (s ∷ ns) * f m ≡ one_if (s == m) * f m + times m ns * f m = ap (λ z. z * f m) t ∙ spread (one_if (s == m)) (times m ns) (f m) in
        omega (arith, rest, a, b, c, d)
      where
        spread : (x y z : ℕ) → (x + y) * z ≡ x * z + y * z
        spread x y z = add-mul x y z

-- so those that stand each once are among all
pub among-all : (p : Pool) (ns : List ℕ) → AllByRecursion (λ s. s < shard_count p) ns → ((s : ℕ) → times s ns ≤ 1) → AreAmong (shard_count p) ns
among-all p ns low apart f =
    let is = counted f (shard_count p) ns low in
    let le = sum_by-le-sum_by (λ k. times k ns * f k) f (range_with_len 0 (shard_count p)) (λ k. at-most (times k ns) (f k) (apart k)) in
    omega (arith, is, le)
  where
    at-most : (m n : ℕ) → m ≤ 1 → m * n ≤ n
    at-most zero n h = omega arith
    at-most (suc zero) n h = omega arith
    at-most (suc (suc m)) n h = absurd (omega (arith, h))

-- those that are left are among all tasks
pub left-sum : (f : ℕ → ℕ) (rs : List ShardRun) → sum_by f (left_in rs) ≤ sum_by f (shards_in rs)
left-sum f [] = omega arith
left-sum f (r ∷ rs) = by_refusal (left-sum f rs) r.refused
  where
    by_refusal : sum_by f (left_in rs) ≤ sum_by f (shards_in rs) → (o : Option Tripped) → sum_by f (left_by r.shard o ++ left_in rs) ≤ sum_by f (shards_in (r ∷ rs))
    by_refusal rest None = let a = sum_by-cons f r.shard (left_in rs) in let b = sum_by-cons f r.shard (shards_in rs) in omega (arith, rest, a, b)
    by_refusal rest (Some t) = let b = sum_by-cons f r.shard (shards_in rs) in omega (arith, rest, b)

pub left-among : (p : Pool) (rs : List ShardRun) → AreAmong (shard_count p) (shards_in rs) → AreAmong (shard_count p) (left_in rs)
left-among p rs among f = let all = among f in let some = left-sum f rs in omega (arith, all, some)
