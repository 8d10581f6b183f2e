-- What holds of each item, and what all items add up to, once a list is filtered, cut, sorted or changed.
use Rattle.std.specs.Prelude.{◌≡◌, refl, ℕ, zero, suc, ◌+◌, Bool, true, false, cond, if◌then◌else◌, List, [], ◌∷◌, map, filter, take, drop, sum_by}
use Rattle.std.specs.List.{AllByRecursion}
use Rattle.std.specs.declared.cmp.Ordering.{Ordering}
use Rattle.std.specs.Ordering.{is_le}
use Rattle.std.proofs.Common.{arith}
use Rattle.std.proofs.lemmas.List.Sums.{sum_by-cons}
use Rattle.list_laws.specs.Sorting.{insert_sorted, sorted}

-- a fact of each item, kept by the steps that make a list of others
module _ {A : Type 0} (P : A → Type 0) where
  pub each-filter : (p : A → Bool) (xs : List A) → AllByRecursion P xs → AllByRecursion P (filter p xs)
  each-filter p [] h = tt
  each-filter p (x ∷ xs) h = elim (p x) as (λ c. AllByRecursion P (cond c (x ∷ filter p xs) (filter p xs))) [ true ↦ (h.0, each-filter p xs h.1) | false ↦ each-filter p xs h.1 ]

  pub each-take : (n : ℕ) (xs : List A) → AllByRecursion P xs → AllByRecursion P (take n xs)
  each-take zero xs h = tt
  each-take (suc n) [] h = tt
  each-take (suc n) (x ∷ xs) h = (h.0, each-take n xs h.1)

  pub each-drop : (n : ℕ) (xs : List A) → AllByRecursion P xs → AllByRecursion P (drop n xs)
  each-drop zero xs h = h
  each-drop (suc n) [] h = tt
  each-drop (suc n) (x ∷ xs) h = each-drop n xs h.1

  module _ (cmp : A → A → Ordering) where
    each-insert : (x : A) (xs : List A) → P x → AllByRecursion P xs → AllByRecursion P (insert_sorted cmp x xs)
    each-insert x [] p h = (p, tt)
    each-insert x (y ∷ ys) p h =
        elim (is_le (cmp x y)) as (λ c. AllByRecursion P (if c then x ∷ y ∷ ys else (y ∷ insert_sorted cmp x ys))) [ true ↦ (p, h) | false ↦ (h.0, each-insert x ys p h.1) ]

    pub each-sorted : (xs : List A) → AllByRecursion P xs → AllByRecursion P (sorted cmp xs)
    each-sorted [] h = tt
    each-sorted (x ∷ xs) h = each-insert x (sorted cmp xs) h.0 (each-sorted xs h.1)

  pub each-map : {B : Type 0} (f : B → A) (xs : List B) → ((x : B) → P (f x)) → AllByRecursion P (map f xs)
  each-map f [] h = tt
  each-map f (x ∷ xs) h = (h x, each-map f xs h)

pub each-mapped : {A B : Type 0} (P : A → Type 0) (Q : B → Type 0) (f : A → B) → ((x : A) → P x → Q (f x)) → (xs : List A) → AllByRecursion P xs → AllByRecursion Q (map f xs)
each-mapped P Q f step [] h = tt
each-mapped P Q f step (x ∷ xs) h = (step x h.0, each-mapped P Q f step xs h.1)

-- a sum over a sorted list
module _ {A : Type 0} (cmp : A → A → Ordering) (f : A → ℕ) where
  sum_by-insert_sorted : (x : A) (xs : List A) → sum_by f (insert_sorted cmp x xs) ≡ f x + sum_by f xs
  sum_by-insert_sorted x [] = sum_by-cons f x []
  sum_by-insert_sorted x (y ∷ ys) =
      elim (is_le (cmp x y)) as (λ b. sum_by f (if b then x ∷ y ∷ ys else (y ∷ insert_sorted cmp x ys)) ≡ f x + sum_by f (y ∷ ys)) [
        | true ↦ sum_by-cons f x (y ∷ ys)
        | false ↦ omega (arith, sum_by-cons f y (insert_sorted cmp x ys), sum_by-insert_sorted x ys, sum_by-cons f y ys)
      ]

  pub sum_by-sorted : (xs : List A) → sum_by f (sorted cmp xs) ≡ sum_by f xs
  sum_by-sorted [] = refl
  sum_by-sorted (x ∷ xs) = omega (arith, sum_by-insert_sorted x (sorted cmp xs), sum_by-sorted xs, sum_by-cons f x xs)
