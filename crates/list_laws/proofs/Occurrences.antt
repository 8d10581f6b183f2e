-- How many items of a list pass a test, and whether all do, once it is sorted or cut.
use Rattle.std.specs.Prelude.{◌≡◌, refl, ℕ, zero, suc, ◌≤◌, Bool, true, false, cond, T, List, [], ◌∷◌, map, filter, take, if◌then◌else◌}
use Rattle.std.specs.List.{list_all}
use Rattle.std.specs.declared.cmp.Ordering.{Ordering}
use Rattle.std.specs.Ordering.{is_le}
use Rattle.std.proofs.Common.{◌∙◌, ap, arith}
use Rattle.list_laws.specs.Sorting.{insert_sorted, sorted}
use Rattle.list_laws.proofs.Booleans.{and_left, and_right, both}

-- how many items pass the test
abbrev pub occurrences : {A : Type 0} → (A → Bool) → List A → ℕ
occurrences p [] = 0
occurrences p (x ∷ xs) = cond (p x) (suc (occurrences p xs)) (occurrences p xs)

-- two tests may take turns to count
if_swap : (a b : Bool) (n : ℕ) → cond a (suc (cond b (suc n) n)) (cond b (suc n) n) ≡ cond b (suc (cond a (suc n) n)) (cond a (suc n) n)
if_swap true true n = refl
if_swap true false n = refl
if_swap false true n = refl
if_swap false false n = refl

module _ {A : Type 0} (cmp : A → A → Ordering) (p : A → Bool) where
  -- an insertion counts its item
  occurrences-insert : (x : A) (ys : List A) → occurrences p (insert_sorted cmp x ys) ≡ occurrences p (x ∷ ys)
  occurrences-insert x [] = refl
  occurrences-insert x (y ∷ ys) =
      elim (is_le (cmp x y)) as (λ b. occurrences p (if b then x ∷ y ∷ ys else (y ∷ insert_sorted cmp x ys)) ≡ occurrences p (x ∷ y ∷ ys)) [
        | true ↦ refl
        | false ↦ ap (λ n. cond (p y) (suc n) n) (occurrences-insert x ys) ∙ if_swap (p y) (p x) (occurrences p ys)
      ]

  -- a sorted list has the items of the list
  pub occurrences-sorted : (xs : List A) → occurrences p (sorted cmp xs) ≡ occurrences p xs
  occurrences-sorted [] = refl
  occurrences-sorted (x ∷ xs) = occurrences-insert x (sorted cmp xs) ∙ ap (λ n. cond (p x) (suc n) n) (occurrences-sorted xs)

  -- an insertion of what passes keeps that all pass
  all-insert : (x : A) (ys : List A) → T (p x) → T (list_all p ys) → T (list_all p (insert_sorted cmp x ys))
  all-insert x [] h g = both _ _ h tt
  all-insert x (y ∷ ys) h g =
      elim (is_le (cmp x y)) as (λ b. T (list_all p (if b then x ∷ y ∷ ys else (y ∷ insert_sorted cmp x ys)))) [
        | true ↦ both _ _ h g
        | false ↦ both _ _ (and_left _ _ g) (all-insert x ys h (and_right _ _ g))
      ]

  -- sorting keeps that all pass
  pub all-sorted : (xs : List A) → T (list_all p xs) → T (list_all p (sorted cmp xs))
  all-sorted [] h = tt
  all-sorted (x ∷ xs) h = all-insert x (sorted cmp xs) (and_left _ _ h) (all-sorted xs (and_right _ _ h))

module _ {A : Type 0} (p : A → Bool) where
  -- the first items have at most what all have
  pub occurrences-take : (n : ℕ) (xs : List A) → occurrences p (take n xs) ≤ occurrences p xs
  occurrences-take zero xs = omega arith
  occurrences-take (suc n) [] = omega arith
  occurrences-take (suc n) (x ∷ xs) =
      let rest = occurrences-take n xs in
      elim (p x) as (λ b. cond b (suc (occurrences p (take n xs))) (occurrences p (take n xs)) ≤ cond b (suc (occurrences p xs)) (occurrences p xs)) [
        | true ↦ omega arith
        | false ↦ rest
      ]

  -- what passes another test has at most what all have
  pub occurrences-filter : (q : A → Bool) (xs : List A) → occurrences p (filter q xs) ≤ occurrences p xs
  occurrences-filter q [] = omega arith
  occurrences-filter q (x ∷ xs) =
      let rest = occurrences-filter q xs in
      elim (q x) as (λ c. occurrences p (cond c (x ∷ filter q xs) (filter q xs)) ≤ occurrences p (x ∷ xs)) [
        | true ↦ elim (p x) as (λ b. cond b (suc (occurrences p (filter q xs))) (occurrences p (filter q xs)) ≤ cond b (suc (occurrences p xs)) (occurrences p xs)) [
          | true ↦ omega arith
          | false ↦ rest
        ]
        | false ↦ elim (p x) as (λ b. occurrences p (filter q xs) ≤ cond b (suc (occurrences p xs)) (occurrences p xs)) [
          | true ↦ omega arith
          | false ↦ rest
        ]
      ]

  -- of items that all pass the first do
  pub all-take : (n : ℕ) (xs : List A) → T (list_all p xs) → T (list_all p (take n xs))
  all-take zero xs h = tt
  all-take (suc n) [] h = tt
  all-take (suc n) (x ∷ xs) h = both _ _ (and_left _ _ h) (all-take n xs (and_right _ _ h))

  -- changed items all pass where each does
  pub all-map : {B : Type 0} (f : B → A) (xs : List B) → ((x : B) → T (p (f x))) → T (list_all p (map f xs))
  all-map f [] h = tt
  all-map f (x ∷ xs) h = both _ _ (h x) (all-map f xs h)

-- changed items that pass
pub occurrences-map : {A B : Type 0} (p : B → Bool) (f : A → B) (xs : List A) → occurrences p (map f xs) ≡ occurrences (λ x. p (f x)) xs
occurrences-map p f [] = refl
occurrences-map p f (x ∷ xs) = ap (λ n. cond (p (f x)) (suc n) n) (occurrences-map p f xs)
