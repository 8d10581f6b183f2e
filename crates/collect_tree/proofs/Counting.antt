-- The items of a list that pass a test, and how many of the first ones do.
use Rattle.std.specs.Prelude.{◌≡◌, ℕ, zero, suc, ◌+◌, ◌≤◌, Bool, true, false, cond, ◌++◌, List, [], ◌∷◌, filter, length, map, option_map, take, Some, slice_get}
use Rattle.std.proofs.Common.{sym, ◌∙◌, ap, add-one, arith, length-append}
use Rattle.std.proofs.lemmas.List.{take_all}
use Rattle.std.proofs.lemmas.Option.{slice_get-map}
use Rattle.list_laws.proofs.Lists.{filter-append}
use Rattle.list_laws.proofs.Options.{none_some, some_same}

-- one more of the first items
pub take-next : {A : Type 0} (xs : List A) (n : ℕ) (x : A) → slice_get xs n ≡ Some x → take (n + 1) xs ≡ take n xs ++ x ∷ []
take-next {A = A} xs n x e = ap (λ m. take m xs) (add-one n) ∙ next xs n x e
  where
    next : (xs : List A) (n : ℕ) (x : A) → slice_get xs n ≡ Some x → take (suc n) xs ≡ take n xs ++ x ∷ []
    next [] zero x e = none_some x e
    next [] (suc n) x e = none_some x e
    next (y ∷ xs) zero x e = ap (λ z. z ∷ []) (some_same y x e)
    next (y ∷ xs) (suc n) x e = ap (λ ys. y ∷ ys) (next xs n x e)

-- the item at a place, and what is before and behind it
pub take-drop : {A : Type 0} (xs : List A) (n : ℕ) (x : A) → slice_get xs n ≡ Some x → (more : List A) × (xs ≡ take n xs ++ x ∷ more)
take-drop [] zero x e = none_some x e
take-drop [] (suc n) x e = none_some x e
take-drop (y ∷ xs) zero x e = (xs, ap (λ z. z ∷ xs) (some_same y x e))
take-drop (y ∷ xs) (suc n) x e = let rest = take-drop xs n x e in (rest.0, ap (λ ys. y ∷ ys) rest.1)

module _ {A : Type 0} (p : A → Bool) where
  -- an item that passes stands behind those before it that pass
  pub filter-at : (xs : List A) (n : ℕ) (x : A) → slice_get xs n ≡ Some x → p x ≡ true → slice_get (filter p xs) (length (filter p (take n xs))) ≡ Some x
  filter-at [] zero x e h = none_some x e
  filter-at [] (suc n) x e h = none_some x e
  filter-at (y ∷ xs) zero x e h = ap (λ b. slice_get (cond b (y ∷ filter p xs) (filter p xs)) 0) (ap p (some_same y x e) ∙ h) ∙ e
  filter-at (y ∷ xs) (suc n) x e h =
      elim (p y) as (λ b. slice_get (cond b (y ∷ filter p xs) (filter p xs)) (length (cond b (y ∷ filter p (take n xs)) (filter p (take n xs)))) ≡ Some x) [
        | true ↦ filter-at xs n x e h
        | false ↦ filter-at xs n x e h
      ]

  filter-next : (xs : List A) (n : ℕ) (x : A) → slice_get xs n ≡ Some x → length (filter p (take (n + 1) xs)) ≡ length (filter p (take n xs)) + length (filter p (x ∷ []))
  filter-next xs n x e = ap (λ ys. length (filter p ys)) (take-next xs n x e) ∙ ap length (filter-append p (take n xs) (x ∷ [])) ∙ length-append (filter p (take n xs)) (filter p (x ∷ []))

  -- one more of them passes
  pub count-more : (xs : List A) (n : ℕ) (x : A) → slice_get xs n ≡ Some x → p x ≡ true → length (filter p (take (n + 1) xs)) ≡ length (filter p (take n xs)) + 1
  count-more xs n x e h = filter-next xs n x e ∙ ap (λ b. length (filter p (take n xs)) + length (cond b (x ∷ []) [])) h

  -- one more does not
  pub count-same : (xs : List A) (n : ℕ) (x : A) → slice_get xs n ≡ Some x → p x ≡ false → length (filter p (take (n + 1) xs)) ≡ length (filter p (take n xs))
  count-same xs n x e h = filter-next xs n x e ∙ ap (λ b. length (filter p (take n xs)) + length (cond b (x ∷ []) [])) h ∙ (let none : length (filter p (take n xs)) + 0 ≡ length (filter p (take n xs)) = omega arith in none)

  -- all of them
  pub count-all : (xs : List A) → length (filter p (take (length xs) xs)) ≡ length (filter p xs)
  count-all xs = ap (λ ys. length (filter p ys)) (take_all (length xs) xs (omega arith))

  -- they are no more than all
  pub count-few : (xs : List A) (n : ℕ) → length (filter p (take n xs)) ≤ n
  count-few [] zero = omega arith
  count-few [] (suc n) = omega arith
  count-few (x ∷ xs) zero = omega arith
  count-few (x ∷ xs) (suc n) =
      let rest = count-few xs n in
      elim (p x) as (λ b. length (cond b (x ∷ filter p (take n xs)) (filter p (take n xs))) ≤ suc n) [ true ↦ omega arith | false ↦ omega arith ]

-- the answer at a place is that for the item there
pub bit-is : {A : Type 0} (p : A → Bool) (xs : List A) (bits : List Bool) (n : ℕ) (x : A) (b : Bool) → bits ≡ map p xs → slice_get xs n ≡ Some x → slice_get bits n ≡ Some b → p x ≡ b
bit-is p xs bits n x b is here said = some_same (p x) b (sym (slice_get-map p xs n ∙ ap (option_map p) here) ∙ ap (λ bs. slice_get bs n) (sym is) ∙ said)

-- lists of one item
pub first-is : {A : Type 0} (x y : A) → x ∷ [] ≡ y ∷ [] → x ≡ y
first-is x y e = some_same x y (ap (λ xs. slice_get xs 0) e)
