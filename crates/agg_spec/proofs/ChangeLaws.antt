-- Running sums and their changes, and sums of counts.
use Rattle.std.specs.Prelude.{◌≡◌, refl, ℕ, zero, suc, ℤ, pos, ◌+◌, ◌+ℤ◌, ◌-ℤ◌, List, [], ◌∷◌, map, take, drop, length, sum_by, Option, Some, None, slice_get, unwrap_or}
use Rattle.std.specs.List.{range_with_len, take-map}
use Rattle.std.proofs.Common.{◌∙◌, sym, ap, arith}
use Rattle.std.proofs.lemmas.Int.{ints}
use Rattle.std.proofs.lemmas.List.Sums.{sum_by-cons}
use Rattle.agg_model.specs.declared.aggregation.Kind.{Kind}
use Rattle.agg_model.specs.declared.answer.BucketAnswer.{BucketAnswer, out-BucketAnswer}
use Rattle.agg_model.specs.declared.pipeline.PipePath.TheVariants as path
use Rattle.agg_evaluation.specs.Shard.{int_sum}
use Rattle.agg_spec.specs.Pipelines.{value_of_place, known_values, cumulative_sum_at, cumulative_sums, derivative_at, derivatives, difference, sum_of_values, values_of}
use Rattle.list_laws.proofs.Options.{none_some, some_same}

length-mapped : {A B : Type 0} (f : A → B) (xs : List A) → length (map f xs) ≡ length xs
length-mapped f [] = refl
length-mapped f (x ∷ xs) = ap (λ n. suc n) (length-mapped f xs)

length-range : {A : Type 0} (f : ℕ → A) (a n : ℕ) → length (map f (range_with_len a n)) ≡ n
length-range f a zero = refl
length-range f a (suc n) = ap (λ k. suc k) (length-range f (a + 1) n)

-- what stands at a place of a list that is made place by place
at-place : {A B : Type 0} (f : ℕ → A) (a : ℕ) (xs : List B) (j : ℕ) (x : B) → slice_get xs j ≡ Some x → slice_get (map f (range_with_len a (length xs))) j ≡ Some (f (a + j))
at-place f a [] j x p = none_some x p
at-place f a (y ∷ ys) zero x p = let e : a ≡ a + 0 = omega arith in ap (λ k. Some (f k)) e
at-place f a (y ∷ ys) (suc j) x p = let e : a + 1 + j ≡ a + suc j = omega arith in at-place f (a + 1) ys j x p ∙ ap (λ k. Some (f k)) e

at-mapped : {A B : Type 0} (f : A → B) (xs : List A) (j : ℕ) (x : A) → slice_get xs j ≡ Some x → slice_get (map f xs) j ≡ Some (f x)
at-mapped f [] j x p = none_some x p
at-mapped f (y ∷ ys) zero x p = ap (λ z. Some (f z)) (some_same y x p)
at-mapped f (y ∷ ys) (suc j) x p = at-mapped f ys j x p

place-before : {A : Type 0} (xs : List A) (j : ℕ) (x : A) → slice_get xs (suc j) ≡ Some x → (y : A) × (slice_get xs j ≡ Some y)
place-before [] j x p = none_some x p
place-before (y ∷ ys) zero x p = (y, refl)
place-before (y ∷ ys) (suc j) x p = place-before ys j x p

known-all : (ns : List ℤ) → known_values (map Some ns) ≡ ns
known-all [] = refl
known-all (n ∷ ns) = ap (λ rest. n ∷ rest) (known-all ns)

-- the sum at a place is that of the numbers up to it
sum-at : (ns : List ℤ) (i : ℕ) → cumulative_sum_at (map Some ns) i ≡ int_sum (take (i + 1) ns)
sum-at ns i = ap (λ vs. int_sum (known_values vs)) (take-map Some (i + 1) ns) ∙ ap int_sum (known-all (take (i + 1) ns))

sum-next : (ns : List ℤ) (i : ℕ) (x : ℤ) → slice_get ns i ≡ Some x → int_sum (take (i + 1) ns) ≡ int_sum (take i ns) +ℤ x
sum-next [] i x p = none_some x p
sum-next (n ∷ ns) zero x p = let e = some_same n x p in omega (arith, ints)
sum-next (n ∷ ns) (suc i) x p =
    let one : suc i + 1 ≡ suc (i + 1) = omega arith in
    let rest = sum-next ns i x p in
    let added : n +ℤ int_sum (take (i + 1) ns) ≡ (n +ℤ int_sum (take i ns)) +ℤ x = omega (arith, ints) in
    ap (λ k. int_sum (take k (n ∷ ns))) one ∙ added

-- the running sum at a place, as a value of the list of them
sum-there : (ns : List ℤ) (j : ℕ) (x : ℤ) → slice_get ns j ≡ Some x → value_of_place (map Some (cumulative_sums (map Some ns))) j ≡ Some (int_sum (take (j + 1) ns))
sum-there ns j x p =
    let vs = map Some ns in
    let listed = at-place (cumulative_sum_at vs) 0 vs j (Some x) (at-mapped Some ns j x p) in
    let here : 0 + j ≡ j = omega arith in
    let valued = at-mapped Some (cumulative_sums vs) j (cumulative_sum_at vs (0 + j)) listed in
    ap (λ (o : Option (Option ℤ)). unwrap_or o None) valued ∙ ap (λ k. Some (cumulative_sum_at vs k)) here ∙ ap Some (sum-at ns j)

change-there : (ns : List ℤ) (j : ℕ) (x : ℤ) → slice_get ns (suc j) ≡ Some x → derivative_at (map Some (cumulative_sums (map Some ns))) (suc j) ≡ Some x
change-there ns j x p =
    let before = place-before ns j x p in
    let next = sum-there ns (suc j) x p in
    let last = sum-there ns j before.0 before.1 in
    let step = sum-next ns (suc j) x p in
    let same : j + 1 ≡ suc j = omega arith in
    let held = ap (λ k. int_sum (take k ns)) same in
    let less : int_sum (take (suc j + 1) ns) -ℤ int_sum (take (j + 1) ns) ≡ x = omega (arith, ints) in
    (λ i. difference (next i) (last i)) ∙ ap Some less

-- a list that is made place by place is the list that has these items
made-so : {A : Type 0} (g : ℕ → Option A) (a : ℕ) (xs : List A) → ((j : ℕ) (x : A) → slice_get xs j ≡ Some x → g (a + j) ≡ Some x) → map g (range_with_len a (length xs)) ≡ map Some xs
made-so g a [] there = refl
made-so g a (x ∷ xs) there =
    let first : a ≡ a + 0 = omega arith in
    let rest = made-so g (a + 1) xs (λ j y p. let e : a + 1 + j ≡ a + suc j = omega arith in ap g e ∙ there (suc j) y p) in
    λ i. ((ap g first ∙ there 0 x refl) i ∷ rest i)

pub changes-of-sums : (ns : List ℤ) → drop 1 (derivatives (map Some (cumulative_sums (map Some ns)))) ≡ map Some (drop 1 ns)
changes-of-sums [] = refl
changes-of-sums (n ∷ ns) =
    let sums = map Some (cumulative_sums (map Some (n ∷ ns))) in
    let long : length sums ≡ length (n ∷ ns) =
    length-mapped Some (cumulative_sums (map Some (n ∷ ns)))
    ∙ length-range (cumulative_sum_at (map Some (n ∷ ns))) 0 (length (map Some (n ∷ ns)))
    ∙ length-mapped Some (n ∷ ns) in
    ap (λ k. drop 1 (map (derivative_at sums) (range_with_len 0 k))) long
    ∙ made-so (derivative_at sums) 1 ns (λ j x p. let e : 1 + j ≡ suc j = omega arith in ap (derivative_at sums) e ∙ change-there (n ∷ ns) j x p)

pub sum-of-counts : (kinds : List Kind) (buckets : List BucketAnswer) → sum_of_values (values_of kinds path.Count buckets) ≡ pos (sum_by (λ b. (out-BucketAnswer b).count) buckets)
sum-of-counts kinds [] = refl
sum-of-counts kinds (b ∷ bs) =
    let rest = sum-of-counts kinds bs in
    let more = sum_by-cons (λ b. (out-BucketAnswer b).count) b bs in
    omega (arith, ints)
