-- Sorting by orders that agree on the items at hand, and what a sort keeps.
use Rattle.std.specs.Prelude.{◌≡◌, refl, Bool, true, List, [], ◌∷◌}
use Rattle.std.specs.List.{list_all}
use Rattle.std.specs.declared.cmp.Ordering.{Ordering}
use Rattle.std.specs.Ordering.{is_le}
use Rattle.std.proofs.Common.{sym, ◌∙◌, ap, subst, cond, ⊎_elim}
use Rattle.std.proofs.lemmas.Bool.{cases_Bool, and_parts, and_from}
use Rattle.list_laws.specs.Sorting.{sorted, insert_sorted}

module _ {A : Type 0} (p : A → Bool) (cmp : A → A → Ordering) where
  pub list_all-insert : (x : A) (ys : List A) → p x ≡ true → list_all p ys ≡ true → list_all p (insert_sorted cmp x ys) ≡ true
  list_all-insert x [] first all = and_from _ _ first refl
  list_all-insert x (y ∷ ys) first all =
      ⊎_elim (λ e. subst (λ b. list_all p (cond b (x ∷ y ∷ ys) (y ∷ insert_sorted cmp x ys)) ≡ true) (sym e) (and_from _ _ first all))
      (λ e. subst (λ b. list_all p (cond b (x ∷ y ∷ ys) (y ∷ insert_sorted cmp x ys)) ≡ true) (sym e)
      (and_from _ _ (and_parts _ _ all).0 (list_all-insert x ys first (and_parts _ _ all).1)))
      (cases_Bool (is_le (cmp x y)))

  -- what holds of all items holds of the sorted ones
  pub list_all-sorted : (xs : List A) → list_all p xs ≡ true → list_all p (sorted cmp xs) ≡ true
  list_all-sorted [] all = refl
  list_all-sorted (x ∷ xs) all = list_all-insert x (sorted cmp xs) (and_parts _ _ all).0 (list_all-sorted xs (and_parts _ _ all).1)

module _ {A : Type 0} (p : A → Bool) (cmp cmp' : A → A → Ordering) (same : (x y : A) → p x ≡ true → p y ≡ true → cmp x y ≡ cmp' x y) where
  insert_same : (x : A) (ys : List A) → p x ≡ true → list_all p ys ≡ true → insert_sorted cmp x ys ≡ insert_sorted cmp' x ys
  insert_same x [] first all = refl
  insert_same x (y ∷ ys) first all =
      ap (λ o. cond (is_le o) (x ∷ y ∷ ys) (y ∷ insert_sorted cmp x ys)) (same x y first (and_parts _ _ all).0)
      ∙ ap (λ rest. cond (is_le (cmp' x y)) (x ∷ y ∷ ys) (y ∷ rest)) (insert_same x ys first (and_parts _ _ all).1)

  pub sorted_same : (xs : List A) → list_all p xs ≡ true → sorted cmp xs ≡ sorted cmp' xs
  sorted_same [] all = refl
  sorted_same (x ∷ xs) all =
      ap (insert_sorted cmp x) (sorted_same xs (and_parts _ _ all).1)
      ∙ insert_same x (sorted cmp' xs) (and_parts _ _ all).0 (list_all-sorted p cmp' xs (and_parts _ _ all).1)
