-- The tasks of the plan: the search of each, and how many a search has.
use Rattle.std.specs.Prelude.{◌≡◌, refl, ◌<◌, ℕ, zero, suc, ◌+◌, ◌*◌, ◌==◌, List, [], ◌∷◌, ◌++◌, flat_map, length, replicate, slice_index}
use Rattle.std.specs.List.{range_with_len}
use Rattle.std.proofs.Common.{sym, ◌∙◌, ap, arith}
use Rattle.std.proofs.Math.Nat.{suc-mul}
use Rattle.std.proofs.lemmas.Bool.{eq-eqb, ne_eqb}
use Rattle.std.proofs.lemmas.List.Sums.{sum_by-append, sum_by-cons}
use Rattle.arrival_moves.specs.Lists.{one_if, times}
use Rattle.arrival_moves.specs.Plans.{search_of, task_count, tasks_of}
use Rattle.arrival_moves.specs.Labels.{task_label}
use Rattle.arrival_moves.specs.declared.label.Label.{Label}
use Rattle.arrival_moves.specs.declared.plan.Plan.{Plan}
use Rattle.pool_results.specs.Pools.{IsTask, Pool, shard_count, task_number}
use Rattle.pool_worker.specs.Plans.{plan_of}

abbrev rows : ℕ → ℕ → ℕ → List ℕ
rows n a k = flat_map (λ q. replicate n q) (range_with_len a k)

length-replicate : (n q : ℕ) → length (replicate n q) ≡ n
length-replicate zero q = refl
length-replicate (suc n) q = ap suc (length-replicate n q)

length-both : (xs ys : List ℕ) → length (xs ++ ys) ≡ length xs + length ys
length-both [] ys = (let z : length ys ≡ 0 + length ys = omega arith in z)
length-both (x ∷ xs) ys = ap suc (length-both xs ys) ∙ (let z : suc (length xs + length ys) ≡ suc (length xs) + length ys = omega arith in z)

length-rows : (n a k : ℕ) → length (rows n a k) ≡ k * n
length-rows n a zero = (let z : 0 ≡ 0 * n = omega arith in z)
length-rows n a (suc k) =
    let one = length-replicate n a in let rest = length-rows n (a + 1) k in
    let m : ℕ = k * n in let e : suc k * n ≡ m + n = suc-mul k n in
    length-both (replicate n a) (rows n (a + 1) k) ∙ (omega (arith, one, rest, e))

-- in the front, and behind it
index-front : (xs ys : List ℕ) (i : ℕ) → i < length xs → slice_index (xs ++ ys) i ≡ slice_index xs i
index-front [] ys i h = absurd (omega (arith, h))
index-front (x ∷ xs) ys zero h = refl
index-front (x ∷ xs) ys (suc i) h = index-front xs ys i (omega (arith, h))

index-behind : (xs ys : List ℕ) (i : ℕ) → slice_index (xs ++ ys) (length xs + i) ≡ slice_index ys i
index-behind [] ys i = ap (slice_index ys) (let z : 0 + i ≡ i = omega arith in z)
index-behind (x ∷ xs) ys i = ap (slice_index (x ∷ (xs ++ ys))) (let z : suc (length xs) + i ≡ suc (length xs + i) = omega arith in z) ∙ index-behind xs ys i

index-replicate : (n q i : ℕ) → i < n → slice_index (replicate n q) i ≡ q
index-replicate zero q i h = absurd (omega (arith, h))
index-replicate (suc n) q zero h = refl
index-replicate (suc n) q (suc i) h = index-replicate n q i (omega (arith, h))

-- the search of a task
index-rows : (n a k q s : ℕ) → q < k → s < n → slice_index (rows n a k) (q * n + s) ≡ a + q
index-rows n a zero q s h g = absurd (omega (arith, h))
index-rows n a (suc k) zero s h g =
    let one = length-replicate n a in
    ap (slice_index (rows n a (suc k))) (let z : 0 * n + s ≡ s = omega arith in z)
    ∙ index-front (replicate n a) (rows n (a + 1) k) s (omega (arith, one, g)) ∙ index-replicate n a s g ∙ (let z : a ≡ a + 0 = omega arith in z)
index-rows n a (suc k) (suc q) s h g =
    let one = length-replicate n a in
    let m : ℕ = q * n in let e : suc q * n ≡ m + n = suc-mul q n in
    let there : suc q * n + s ≡ length (replicate n a) + (m + s) = omega (arith, one, e) in
    ap (slice_index (rows n a (suc k))) there ∙ index-behind (replicate n a) (rows n (a + 1) k) (m + s) ∙ index-rows n (a + 1) k q s (omega (arith, h)) g
    ∙ (let z : a + 1 + q ≡ a + suc q = omega arith in z)

pub search-is : (p : Pool) (size q s : ℕ) → q < length p.searches → s < shard_count p → search_of (plan_of p size) (task_number p q s) ≡ q
search-is p size q s h g = index-rows (shard_count p) 0 (length p.searches) q s h g ∙ (let z : 0 + q ≡ q = omega arith in z)

-- how many tasks a search has
times-both : (k : ℕ) (xs ys : List ℕ) → times k (xs ++ ys) ≡ times k xs + times k ys
times-both k xs ys = sum_by-append (λ x. one_if (x == k)) xs ys

times-own : (n q : ℕ) → times q (replicate n q) ≡ n
times-own zero q = refl
times-own (suc n) q =
    let rest = times-own n q in let all = sum_by-cons (λ x. one_if (x == q)) q (replicate n q) in
    let one : one_if (q == q) ≡ 1 = ap one_if (eq-eqb q q refl) in omega (arith, rest, all, one)

times-other : (n q r : ℕ) → (q ≡ r → ⊥) → times r (replicate n q) ≡ 0
times-other zero q r h = refl
times-other (suc n) q r h =
    let rest = times-other n q r h in let all = sum_by-cons (λ x. one_if (x == r)) q (replicate n q) in
    let none : one_if (q == r) ≡ 0 = ap one_if (ne_eqb q r h) in omega (arith, rest, all, none)

times-before : (n a k r : ℕ) → r < a → times r (rows n a k) ≡ 0
times-before n a zero r h = refl
times-before n a (suc k) r h =
    let rest = times-before n (a + 1) k r (omega (arith, h)) in
    let none = times-other n a r (λ e. omega (arith, e, h)) in
    let all = times-both r (replicate n a) (rows n (a + 1) k) in omega (arith, rest, none, all)

times-rows : (n a k q : ℕ) → q < k → times (a + q) (rows n a k) ≡ n
times-rows n a zero q h = absurd (omega (arith, h))
times-rows n a (suc k) zero h =
    let own = times-own n a in let rest = times-before n (a + 1) k a (omega arith) in
    let all = times-both a (replicate n a) (rows n (a + 1) k) in
    ap (λ r. times r (rows n a (suc k))) (let z : a + 0 ≡ a = omega arith in z) ∙ omega (arith, own, rest, all)
times-rows n a (suc k) (suc q) h =
    let rest = times-rows n (a + 1) k q (omega (arith, h)) in
    let none = times-other n a (a + 1 + q) (λ e. omega (arith, e)) in
    let all = times-both (a + 1 + q) (replicate n a) (rows n (a + 1) k) in
    ap (λ r. times r (rows n a (suc k))) (let z : a + suc q ≡ a + 1 + q = omega arith in z) ∙ omega (arith, rest, none, all)

pub tasks-are : (p : Pool) (size q : ℕ) → q < length p.searches → tasks_of (plan_of p size) q ≡ shard_count p
tasks-are p size q h = ap (λ r. times r (rows (shard_count p) 0 (length p.searches))) (let z : q ≡ 0 + q = omega arith in z) ∙ times-rows (shard_count p) 0 (length p.searches) q h

pub count-is : (p : Pool) (size : ℕ) → task_count (plan_of p size) ≡ length p.searches * shard_count p
count-is p size = length-rows (shard_count p) 0 (length p.searches)

-- a search that a task is of, is one of the pool
pub search-low : (p : Pool) (size q s r : ℕ) → q < length p.searches → s < shard_count p → search_of (plan_of p size) (task_number p q s) ≡ r → q ≡ r
search-low p size q s r h g e = sym (search-is p size q s h g) ∙ e

-- the search of a task's load
pub task-search : (p : Pool) (size : ℕ) (plan : Plan) (q s task : ℕ) → plan ≡ plan_of p size → IsTask p q s → task_label (task_number p q s) ≡ task_label task → q ≡ search_of plan task
task-search p size plan q s task is there label =
    let same : task_number p q s ≡ task = first-same (ap (λ (l : Label). l.tasks) label) in
    sym (search-is p size q s there.search there.shard) ∙ ap (search_of (plan_of p size)) same ∙ ap (λ (z : Plan). search_of z task) (sym is)
  where
    first-same : (task_number p q s ∷ []) ≡ (task ∷ []) → task_number p q s ≡ task
    first-same e = let f : task_number p q s ≡ task = cc in f

-- and how many there are of its search
pub task-count : (p : Pool) (size : ℕ) (plan : Plan) (q : ℕ) → plan ≡ plan_of p size → q < length p.searches → tasks_of plan q ≡ shard_count p
task-count p size plan q is h = ap (λ (z : Plan). tasks_of z q) is ∙ tasks-are p size q h
