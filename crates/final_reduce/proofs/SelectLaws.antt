-- What holds of all items of a list, and sorting by what they are seen as.
use Rattle.std.specs.Prelude.{◌≡◌, refl, ℕ, ◌&&◌, Bool, true, false, List, [], ◌∷◌, map, take, filter}
use Rattle.std.specs.List.{list_all}
use Rattle.std.proofs.Common.{sym, ◌∙◌, ap, subst, cond, ⊎_elim, zero, suc}
use Rattle.std.proofs.lemmas.Bool.{cases_Bool, and_parts, and_from}
use Rattle.std.specs.declared.cmp.Ordering.{Ordering}
use Rattle.std.specs.Ordering.{is_le}
use Rattle.list_laws.specs.Sorting.{sorted, insert_sorted}

pub list_all-map : {A B : Type 0} (p : B → Bool) (f : A → B) (xs : List A) → list_all p (map f xs) ≡ list_all (λ x. p (f x)) xs
list_all-map p f [] = refl
list_all-map p f (x ∷ xs) = ap (λ b. p (f x) && b) (list_all-map p f xs)

module _ {A : Type 0} (p : A → Bool) where
  pub list_all-take : (n : ℕ) (xs : List A) → list_all p xs ≡ true → list_all p (take n xs) ≡ true
  list_all-take zero xs all = refl
  list_all-take (suc n) [] all = refl
  list_all-take (suc n) (x ∷ xs) all = and_from _ _ (and_parts _ _ all).0 (list_all-take n xs (and_parts _ _ all).1)

  pub list_all-filter : (q : A → Bool) (xs : List A) → list_all p xs ≡ true → list_all p (filter q xs) ≡ true
  list_all-filter q [] all = refl
  list_all-filter q (x ∷ xs) all =
      let rest = list_all-filter q xs (and_parts _ _ all).1 in
      ⊎_elim (λ e. subst (λ b. list_all p (cond b (x ∷ filter q xs) (filter q xs)) ≡ true) (sym e) (and_from _ _ (and_parts _ _ all).0 rest))
      (λ e. subst (λ b. list_all p (cond b (x ∷ filter q xs) (filter q xs)) ≡ true) (sym e) rest)
      (cases_Bool (q x))

-- sorting the items as they are seen
insert-map : {A B : Type 0} (f : A → B) (cmp : B → B → Ordering) (x : A) (ys : List A) → map f (insert_sorted (λ a b. cmp (f a) (f b)) x ys) ≡ insert_sorted cmp (f x) (map f ys)
insert-map f cmp x [] = refl
insert-map f cmp x (y ∷ ys) =
    elim (is_le (cmp (f x) (f y))) as (λ b. map f (cond b (x ∷ y ∷ ys) (y ∷ insert_sorted (λ a b. cmp (f a) (f b)) x ys)) ≡ cond b (f x ∷ f y ∷ map f ys) (f y ∷ insert_sorted cmp (f x) (map f ys))) [
      | true ↦ refl
      | false ↦ ap (λ zs. f y ∷ zs) (insert-map f cmp x ys)
    ]

pub sorted-map : {A B : Type 0} (f : A → B) (cmp : B → B → Ordering) (xs : List A) → map f (sorted (λ a b. cmp (f a) (f b)) xs) ≡ sorted cmp (map f xs)
sorted-map f cmp [] = refl
sorted-map f cmp (x ∷ xs) = insert-map f cmp x (sorted (λ a b. cmp (f a) (f b)) xs) ∙ ap (insert_sorted cmp (f x)) (sorted-map f cmp xs)
