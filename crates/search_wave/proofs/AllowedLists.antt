-- Two lists side by side, and sums over a list by its places.
use Rattle.std.specs.Prelude.{◌≡◌, refl, ◌≤◌, ◌<◌, ℕ, suc, not, false, List, [], ◌∷◌, ◌++◌, map, filter, length, sum, sum_by, slice_index_or}
use Rattle.std.specs.List.{AllByRecursion, range_with_len}
use Rattle.std.proofs.Common.{sym, ap, ◌∙◌, arith}
use Rattle.std.proofs.lemmas.List.FromFn.{fill_by_all, length-range_with_len}
use Rattle.std.proofs.lemmas.List.Sums.{sum_by-cons}
use Rattle.list_laws.proofs.Lists.{sum_by-map}
use Rattle.agg_spec.specs.Failures.{unfailed}
use Rattle.agg_spec.specs.Index.{Index, shard_numbers}

-- the items of two lists of one length, pair by pair
abbrev pub ArePairs : {A B : Type 0} → (A → B → Type 0) → List A → List B → Type 0
ArePairs P [] [] = Unit {0}
ArePairs P (x ∷ xs) (y ∷ ys) = P x y × ArePairs P xs ys
ArePairs P _ _ = ⊥

pub pairs-by-place : {A B : Type 0} (P : A → B → Type 0) (d : A) (xs : List A) (ys : List B) → length ys ≡ length xs
    → ((q : ℕ) (e : B) → q < length xs → P (slice_index_or xs q d) (slice_index_or ys q e)) → ArePairs P xs ys
pairs-by-place P d [] [] n h = tt
pairs-by-place P d [] (y ∷ ys) n h = absurd (omega (arith, n))
pairs-by-place P d (x ∷ xs) [] n h = absurd (omega (arith, n))
pairs-by-place P d (x ∷ xs) (y ∷ ys) n h = (h 0 y (omega arith), pairs-by-place P d xs ys (omega (arith, n)) (λ q e low. h (suc q) e (omega (arith, low))))

-- a sum over one list is at most that over the other
pub sum-pairs : {A B : Type 0} (P : A → B → Type 0) (f : A → ℕ) (g : B → ℕ) → ((x : A) (y : B) → P x y → g y ≤ f x) → (xs : List A) (ys : List B) → ArePairs P xs ys → sum_by g ys ≤ sum_by f xs
sum-pairs P f g each [] [] h = omega arith
sum-pairs P f g each [] (y ∷ ys) h = absurd h
sum-pairs P f g each (x ∷ xs) [] h = absurd h
sum-pairs P f g each (x ∷ xs) (y ∷ ys) h =
    let a = sum_by-cons f x xs in let b = sum_by-cons g y ys in let here = each x y h.0 in let rest = sum-pairs P f g each xs ys h.1 in
    omega (arith, a, b, here, rest)

-- a sum over the places of a list
pub sum-places : {A : Type 0} (g : A → ℕ) (d : A) (xs : List A) → sum_by (λ q. g (slice_index_or xs q d)) (range_with_len 0 (length xs)) ≡ sum_by g xs
sum-places g d xs =
    sym (ap (sum_by g) (fill_by_all (λ q. slice_index_or xs q d) xs (length xs) d refl (λ k low. refl)) ∙ sum_by-map g (λ q. slice_index_or xs q d) (range_with_len 0 (length xs)))

pub sum-listed : {A : Type 0} (f : A → ℕ) (xs : List A) → sum (map f xs) ≡ sum_by f xs
sum-listed f xs = sum_by-map (λ z. z) f xs

-- what holds of all holds of those that stand behind
pub each-behind : {A : Type 0} (P : A → Type 0) (xs ys : List A) → AllByRecursion P (xs ++ ys) → AllByRecursion P ys
each-behind P [] ys h = h
each-behind P (x ∷ xs) ys h = each-behind P xs ys h.1

-- where there are shards, some are left of no failure
none-filtered : (ns : List ℕ) → filter (λ shard. not false) ns ≡ ns
none-filtered [] = refl
none-filtered (n ∷ ns) = ap (λ ms. n ∷ ms) (none-filtered ns)

pub some-left : (index : Index) → 0 < length index.shards → unfailed index [] ≡ [] → ⊥
some-left index some none =
    let a = ap length (sym (none-filtered (shard_numbers index)) ∙ none) in let b = length-range_with_len 0 (length index.shards) in
    omega (arith, a, b, some)
