-- The waves of some searches have each search once.
use Rattle.std.specs.Prelude.{◌≡◌, ◌≤◌, ◌<◌, ℕ, zero, suc, ◌+◌, ◌-◌, ◌*◌, ◌/◌, min, List, map, take, drop, length, sum_by}
use Rattle.std.specs.List.{range_with_len}
use Rattle.std.proofs.Common.{◌∙◌, ap, arith}
use Rattle.std.proofs.Math.Nat.{lt-div-mul-add, suc-mul}
use Rattle.std.proofs.lemmas.List.{length-take, length-drop}
use Rattle.std.proofs.lemmas.List.FromFn.{map-range_with_len_more}
use Rattle.std.proofs.lemmas.List.Sums.{sum_by_push}
use Rattle.agg_spec.specs.Reduction.{batches}

-- the first so many batches
firsts-length : {A : Type 0} (size : ℕ) (xs : List A) (n : ℕ) → sum_by length (map (λ i. take size (drop (i * size) xs)) (range_with_len 0 n)) ≡ min (n * size) (length xs)
firsts-length size xs zero = omega arith
firsts-length size xs (suc n) =
    let before = map (λ i. take size (drop (i * size) xs)) (range_with_len 0 n) in
    let last = take size (drop (n * size) xs) in
    let next : suc n ≡ n + 1 = omega arith in
    let more = map-range_with_len_more (λ i. take size (drop (i * size) xs)) 0 n n (omega arith) in
    let taken = length-take size (drop (n * size) xs) in
    let dropped = length-drop (n * size) xs in
    let earlier = firsts-length size xs n in
    let product = suc-mul n size in
    ap (λ k. sum_by length (map (λ i. take size (drop (i * size) xs)) (range_with_len 0 k))) next
    ∙ (ap (sum_by length) more ∙ (sum_by_push length before last ∙ omega (arith, taken, dropped, earlier, product)))

pub batches-length : {A : Type 0} (size : ℕ) (xs : List A) → 1 ≤ size → sum_by length (batches size xs) ≡ length xs
batches-length size xs some =
    let q = (length xs + size - 1) / size in
    let enough : length xs + size - 1 < q * size + size = lt-div-mul-add some in
    let all = firsts-length size xs q in
    omega (arith, all, enough)
