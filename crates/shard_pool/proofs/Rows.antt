-- The search and the shard of each task of a pool.
use Rattle.std.proofs.Common.{◌≡◌, refl, ◌⊎◌, inl, inr, ⊎_elim, ◌<◌, ℕ, zero, suc, ◌+◌, ◌*◌, List, [], ◌∷◌, ◌++◌, map, length, replicate, All, sym, ap, ◌∙◌, append_assoc, arith}
use Rattle.std.specs.Prelude.{flat_map}
use Rattle.std.specs.List.{range_with_len}
use Rattle.std.proofs.Math.Nat.{suc-mul}
use Rattle.std.proofs.lemmas.List.{append-nil, length-map, map-append}
use Rattle.std.proofs.lemmas.List.Elements.{All-head, All-same, All-tail}
use mathlib.Core.Option.{some, some-injective, some-ne-none}
use lib.ListN.{get_elem?}
use Rattle.shard_pool.specs.Tasks.{place_of, task_places}
use Rattle.shard_pool.specs.declared.waiting.Waiting.{Waiting}

-- what holds of each element, holds of one of them
pub all-between : {X : Type 0} (P : X → Type 0) (before : List X) (x : X) (rest : List X) → All P (before ++ x ∷ rest) → P x
all-between P [] x rest h = All-head P x rest h
all-between P (y ∷ ys) x rest h = all-between P ys x rest (All-tail P y (ys ++ x ∷ rest) h)

pub all-at : {X : Type 0} (P : X → Type 0) (xs before : List X) (x : X) (rest : List X) → before ++ x ∷ rest ≡ xs → All P xs → P x
all-at P xs before x rest e h = all-between P before x rest (All-same P (before ++ x ∷ rest) xs e h)

-- rows of a list, one more
pub rows-more : {X : Type 0} (f : ℕ → List X) (a n : ℕ) → flat_map f (range_with_len a (suc n)) ≡ flat_map f (range_with_len a n) ++ f (a + n)
rows-more f a zero = append-nil (f a) ∙ ap f (let z : a ≡ a + 0 = omega arith in z)
rows-more f a (suc n) =
    ap (λ xs. f a ++ xs) (rows-more f (a + 1) n) ∙ sym (append_assoc (f a) (flat_map f (range_with_len (a + 1) n)) (f (a + 1 + n)))
    ∙ ap (λ k. (f a ++ flat_map f (range_with_len (a + 1) n)) ++ f k) (let z : a + 1 + n ≡ a + suc n = omega arith in z)

abbrev row_from : ℕ → ℕ → ℕ → List (ℕ × ℕ)
row_from q b m = map {B = ℕ × ℕ} (λ s. (q, s)) (range_with_len b m)

abbrev pub row : ℕ → ℕ → List (ℕ × ℕ)
row m q = row_from q 0 m

pub places-more : (n m : ℕ) → task_places n m ++ row m n ≡ task_places (n + 1) m
places-more n m = sym (ap (λ k. task_places k m) (let z : n + 1 ≡ suc n = omega arith in z) ∙ rows-more (row m) 0 n ∙ ap (λ k. task_places n m ++ row m k) (let z : 0 + n ≡ n = omega arith in z))

-- a row, and what ends it
abbrev ended : List (ℕ × ℕ) → ℕ → ℕ → List (ℕ × ℕ)
ended xs q k = xs ++ (q, k) ∷ []

one-more : (q a k : ℕ) → row_from q a (suc k) ≡ ended (row_from q a k) q (a + k)
one-more q a zero = ap (ended [] q) (let z : a ≡ a + 0 = omega arith in z)
one-more q a (suc k) = ap (λ (xs : List (ℕ × ℕ)). (q, a) ∷ xs) (one-more q (a + 1) k) ∙ ap (ended (row_from q a (suc k)) q) (let z : a + 1 + k ≡ a + suc k = omega arith in z)

pub row-more : (q s : ℕ) → row s q ++ (q, s) ∷ [] ≡ row (s + 1) q
row-more q s = sym (ap (row_from q 0) (let z : s + 1 ≡ suc s = omega arith in z) ∙ one-more q 0 s ∙ ap (ended (row s q) q) (let z : 0 + s ≡ s = omega arith in z))

-- one task more waits
pub place-more : (ws new : List Waiting) (w : Waiting) (n m q s : ℕ) → new ≡ ws ++ w ∷ [] → place_of w ≡ (q, s) → map place_of ws ≡ task_places n m ++ row s q → map place_of new ≡ task_places n m ++ row (s + 1) q
place-more ws new w n m q s is place before =
    ap (map place_of) is ∙ map-append place_of ws (w ∷ []) ∙ (λ i. before i ++ place i ∷ []) ∙ append_assoc (task_places n m) (row s q) ((q, s) ∷ [])
    ∙ ap (λ xs. task_places n m ++ xs) (row-more q s)

-- an element of a row, or of what follows it
in-row : (q b m : ℕ) (tail : List (ℕ × ℕ)) (i : ℕ) (x : ℕ × ℕ) → get_elem? (row_from q b m ++ tail) i ≡ some x
    → ((x.0 ≡ q) × (x.1 ≡ b + i) × (i < m)) ⊎ ((j : ℕ) × (i ≡ m + j) × (get_elem? tail j ≡ some x))
in-row q b zero tail i x e = inr (i, (let z : i ≡ 0 + i = omega arith in z), e)
in-row q b (suc m) tail zero x e =
    let same : (q, b) ≡ x = some-injective (q, b) x e in
    inl (ap (λ (y : ℕ × ℕ). y.0) (sym same), ap (λ (y : ℕ × ℕ). y.1) (sym same) ∙ (let z : b ≡ b + 0 = omega arith in z), omega arith)
in-row q b (suc m) tail (suc i) x e = ⊎_elim
    (λ t. let a = t.1 in let l = t.2 in inl (t.0, a ∙ (let z : b + 1 + i ≡ b + suc i = omega arith in z), omega (arith, l)))
    (λ t. let a = t.1 in inr (t.0, (let z : suc i ≡ suc m + t.0 = omega (arith, a) in z), t.2))
    (in-row q (b + 1) m tail i x e)

in-rows : (m a k i : ℕ) (x : ℕ × ℕ) → get_elem? (flat_map (row m) (range_with_len a k)) i ≡ some x → (x.0 * m + x.1 ≡ a * m + i) × (x.0 < a + k) × (x.1 < m)
in-rows m a zero i x e = absurd (some-ne-none x (sym e))
in-rows m a (suc k) i x e = ⊎_elim
    (λ t. let s = t.1 in let l = t.2 in let q = t.0 in let first : x.0 * m ≡ a * m = ap (λ n. n * m) q in
    (omega (arith, first, s), omega (arith, q), omega (arith, s, l)))
    (λ t. let at = t.1 in let r = in-rows m (a + 1) k t.0 x t.2 in let same = r.0 in let low = r.1 in
    let next : (a + 1) * m ≡ m + a * m = ap (λ n. n * m) (let z : a + 1 ≡ suc a = omega arith in z) ∙ suc-mul' a in
    (omega (arith, at, same, next), omega (arith, low), r.2))
    (in-row a 0 m (flat_map (row m) (range_with_len (a + 1) k)) i x e)
  where
    suc-mul' : (n : ℕ) → suc n * m ≡ m + n * m
    suc-mul' n = let e = suc-mul n m in let p : ℕ = n * m in omega (arith, e)

between : {X : Type 0} (before : List X) (x : X) (rest : List X) → get_elem? (before ++ x ∷ rest) (length before) ≡ some x
between [] x rest = refl
between (y ∷ ys) x rest = between ys x rest

-- the number of a task is its place among all
pub number-at : (n m : ℕ) (before : List (ℕ × ℕ)) (x : ℕ × ℕ) (rest : List (ℕ × ℕ)) → before ++ x ∷ rest ≡ task_places n m → (x.0 * m + x.1 ≡ length before) × (x.0 < n) × (x.1 < m)
number-at n m before x rest e =
    let r = in-rows m 0 n (length before) x (ap (λ xs. get_elem? xs (length before)) (sym e) ∙ between before x rest) in
    let same = r.0 in let low = r.1 in let none : 0 * m ≡ 0 = omega arith in (omega (arith, same, none), omega (arith, low), r.2)

pub numbered : (n m i : ℕ) (x : ℕ × ℕ) → get_elem? (task_places n m) i ≡ some x → (x.0 * m + x.1 ≡ i) × (x.0 < n)
numbered n m i x e = let r = in-rows m 0 n i x e in let same = r.0 in let low = r.1 in let none : 0 * m ≡ 0 = omega arith in (omega (arith, same, none), omega (arith, low))

length-both : {X : Type 0} (xs ys : List X) → length (xs ++ ys) ≡ length xs + length ys
length-both [] ys = (let z : length ys ≡ 0 + length ys = omega arith in z)
length-both (x ∷ xs) ys = ap suc (length-both xs ys) ∙ (let z : suc (length xs + length ys) ≡ suc (length xs) + length ys = omega arith in z)

-- how many tasks there are
pub places-number : (n m : ℕ) → length (task_places n m) ≡ n * m
places-number n m = rows-number 0 n
  where
    row-number : (q b k : ℕ) → length (row_from q b k) ≡ k
    row-number q b zero = refl
    row-number q b (suc k) = ap suc (row-number q (b + 1) k)

    rows-number : (a k : ℕ) → length (flat_map (row m) (range_with_len a k)) ≡ k * m
    rows-number a zero = (let z : 0 ≡ 0 * m = omega arith in z)
    rows-number a (suc k) =
        let one = row-number a 0 m in let rest = rows-number (a + 1) k in let e = suc-mul k m in
        length-both (row m a) (flat_map (row m) (range_with_len (a + 1) k)) ∙ omega (arith, one, rest, e)

-- the searches of the tasks
pub searches-are : (n m : ℕ) → map (λ (x : ℕ × ℕ). x.0) (task_places n m) ≡ flat_map (λ q. replicate m q) (range_with_len 0 n)
searches-are n m = rows-are 0 n
  where
    row-is : (q b k : ℕ) → map (λ (x : ℕ × ℕ). x.0) (row_from q b k) ≡ replicate k q
    row-is q b zero = refl
    row-is q b (suc k) = ap (λ xs. q ∷ xs) (row-is q (b + 1) k)

    rows-are : (a k : ℕ) → map (λ (x : ℕ × ℕ). x.0) (flat_map (row m) (range_with_len a k)) ≡ flat_map (λ q. replicate m q) (range_with_len a k)
    rows-are a zero = refl
    rows-are a (suc k) = map-append (λ (x : ℕ × ℕ). x.0) (row m a) (flat_map (row m) (range_with_len (a + 1) k))
        ∙ (λ i. row-is a 0 m i ++ rows-are (a + 1) k i)

pub waiting-number : (n m : ℕ) (all : List Waiting) → map place_of all ≡ task_places n m → length all ≡ n * m
waiting-number n m all places = sym (length-map all place_of) ∙ ap length places ∙ places-number n m

-- the task that comes next
pub next-place : (n m : ℕ) (all yielded : List Waiting) (x : Waiting) (rest : List Waiting) → yielded ++ x ∷ rest ≡ all → map place_of all ≡ task_places n m
    → (x.search * m + x.shard ≡ length yielded) × (x.search < n) × (x.shard < m) × (length yielded < n * m)
next-place n m all yielded x rest left places =
    let at : map place_of yielded ++ place_of x ∷ map place_of rest ≡ task_places n m = sym (map-append place_of yielded (x ∷ rest)) ∙ ap (map place_of) left ∙ places in
    let r = number-at n m (map place_of yielded) (place_of x) (map place_of rest) at in
    let number = waiting-number n m all places in let long = sym (ap length left) ∙ length-both yielded (x ∷ rest) in
    (r.0 ∙ length-map yielded place_of, r.1, r.2, omega (arith, number, long))
