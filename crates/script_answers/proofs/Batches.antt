-- The waves of searches, the first one taken by itself.
use Rattle.std.specs.Prelude.{◌≡◌, ◌≤◌, ◌<◌, ℕ, zero, suc, ◌+◌, ◌-◌, ◌*◌, ◌/◌, List, [], ◌∷◌, ◌++◌, map, take, drop, length}
use Rattle.std.specs.List.{range_with_len}
use Rattle.std.proofs.Common.{◌∙◌, refl, sym, ap, arith}
use Rattle.std.proofs.Math.Nat.{add-div_left, suc-mul}
use Rattle.std.proofs.Math.Seq.{drop-append-add, take-append_seam, take-append-add}
use Rattle.std.proofs.lemmas.List.{length-append, take_all}
use Rattle.std.proofs.lemmas.Nat.{div-mul-add}
use Rattle.agg_spec.specs.Reduction.{batches}

-- the n-th of the numbers from 1 on is one more than that of those from 0 on
map-later : {X : Type 0} (f g : ℕ → X) (a b n : ℕ) → b ≡ a + 1 → ((i j : ℕ) → j ≡ i + 1 → f j ≡ g i) → map f (range_with_len b n) ≡ map g (range_with_len a n)
map-later f g a b zero is same = refl
map-later f g a b (suc n) is same = ap (λ x. x ∷ map f (range_with_len (b + 1) n)) (same a b is) ∙ ap (λ xs. g a ∷ xs) (map-later f g (a + 1) (b + 1) n (ap (λ k. k + 1) is) same)

-- the number of batches of so many items
abbrev batch_count : ℕ → ℕ → ℕ
batch_count n size = (n + size - 1) / size

-- so many batches from the first item on
abbrev batch : {A : Type 0} → ℕ → List A → ℕ → List A
batch size items i = take size (drop (i * size) items)

zero-mul : (n : ℕ) → 0 * n ≡ 0
zero-mul n = omega arith

zero-plus : (n k : ℕ) → k ≡ 0 * n + k
zero-plus n k = omega arith

none-counted : (size : ℕ) → 1 ≤ size → batch_count 0 size ≡ 0
none-counted size some =
    let q = div-mul-add 0 size (size - 1) (omega (arith, some)) in
    ap (λ n. n / size) (omega arith) ∙ q

one-counted : (n size : ℕ) → 1 ≤ n → n ≤ size → batch_count n size ≡ 1
one-counted n size some few =
    let q = div-mul-add 1 size (n - 1) (omega (arith, some, few)) in
    ap (λ k. k / size) (omega (arith, some, few)) ∙ q

more-counted : (n m size : ℕ) → 1 ≤ size → n ≡ size + m → batch_count n size ≡ suc (batch_count m size)
more-counted n m size some is =
    let q = add-div_left (m + size - 1) {k = size} some in
    ap (λ k. k / size) (omega (arith, some, is)) ∙ q ∙ omega arith

pub none-batched : {A : Type 0} (size : ℕ) → 1 ≤ size → batches {A = A} size [] ≡ []
none-batched {A = A} size some = ap (λ n. map (batch {A = A} size []) (range_with_len 0 n)) (none-counted size some)

first-of : {A : Type 0} (size : ℕ) (xs : List A) → length xs ≤ size → take size (drop (0 * size) xs) ≡ xs
first-of size xs few = ap (λ k. take size (drop k xs)) (zero-mul size) ∙ take_all size xs few

pub one-batched : {A : Type 0} (size : ℕ) (xs : List A) → 1 ≤ length xs → length xs ≤ size → batches size xs ≡ xs ∷ []
one-batched size xs some few = ap (λ n. map (batch size xs) (range_with_len 0 n)) (one-counted (length xs) size some few) ∙ ap (λ ys. ys ∷ []) (first-of size xs few)

first-batch : {A : Type 0} (size : ℕ) (xs ys : List A) → length xs ≡ size → take size (drop (0 * size) (xs ++ ys)) ≡ xs
first-batch size xs ys is =
    ap (λ k. take size (drop k (xs ++ ys))) (zero-mul size) ∙ ap (λ k. take k (xs ++ ys)) (sym is) ∙ take-append_seam xs ys

later-batch : {A : Type 0} (size : ℕ) (xs ys : List A) (i j : ℕ) → j ≡ i + 1 → length xs ≡ size → take size (drop (j * size) (xs ++ ys)) ≡ take size (drop (i * size) ys)
later-batch size xs ys i j next is =
    let same : j * size ≡ length xs + i * size = ap (λ k. k * size) (next ∙ omega arith) ∙ (suc-mul i size ∙ omega (arith, is)) in
    ap (λ k. take size (drop k (xs ++ ys))) same ∙ ap (take size) (drop-append-add xs ys (i * size))

pub first-batched : {A : Type 0} (size : ℕ) (xs ys : List A) → 1 ≤ size → length xs ≡ size → batches size (xs ++ ys) ≡ xs ∷ batches size ys
first-batched size xs ys some is =
    let count = more-counted (length (xs ++ ys)) (length ys) size some (length-append xs ys ∙ ap (λ k. k + length ys) is) in
    let n = batch_count (length ys) size in
    ap (λ k. map (batch size (xs ++ ys)) (range_with_len 0 k)) count
    ∙ ap (λ b. b ∷ map (batch size (xs ++ ys)) (range_with_len 1 n)) (first-batch size xs ys is)
    ∙ ap (λ bs. xs ∷ bs) (map-later (batch size (xs ++ ys)) (batch size ys) 0 1 n (omega arith) (λ i j next. later-batch size xs ys i j next is))

-- the full batches of what stands behind a full one
pub full-behind : {A : Type 0} (size : ℕ) (xs ys : List A) → 1 ≤ size → length xs ≡ size → take (length (xs ++ ys) / size * size) (xs ++ ys) ≡ xs ++ take (length ys / size * size) ys
full-behind size xs ys some is =
    let all = length-append xs ys ∙ ap (λ k. k + length ys) is in
    let parts = ap (λ k. k / size) all ∙ add-div_left (length ys) {k = size} some in
    let same : length (xs ++ ys) / size * size ≡ length xs + length ys / size * size = ap (λ k. k * size) parts ∙ omega (arith, is) in
    ap (λ k. take k (xs ++ ys)) same ∙ take-append-add xs ys (length ys / size * size)

-- a batch that is not full
pub none-full : {A : Type 0} (size : ℕ) (xs : List A) → length xs < size → take (length xs / size * size) xs ≡ []
none-full size xs few =
    let q = div-mul-add 0 size (length xs) few in
    let less : length xs / size ≡ 0 = ap (λ k. k / size) (zero-plus size (length xs)) ∙ q in
    ap (λ k. take (k * size) xs) less ∙ ap (λ k. take k xs) (zero-mul size)
