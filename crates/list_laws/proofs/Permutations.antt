-- What unites lists of lists, and does not mind which of two lists comes first, does not mind any order.
use Rattle.std.specs.Prelude.{◌≡◌, refl, ℕ, zero, suc, ◌<◌, List, [], ◌∷◌, ◌++◌, map, length, IsPermutation}
use Rattle.std.specs.List.{slice_set, slice_index_or, swap}
use Rattle.std.proofs.Common.{sym, ◌∙◌, ap, arith}
use Rattle.std.proofs.lemmas.List.Sorted.{IsPermutation-keeps}
use Rattle.list_laws.proofs.Lists.{joined, append-nil}

module _ {A : Type 0} (w : List A → A) (unites : (xss : List (List A)) → w (map w xss) ≡ w (joined xss)) (swaps : (xs ys : List A) → w (xs ++ ys) ≡ w (ys ++ xs)) where
  two_parts : (xs ys : List A) → w (xs ++ ys) ≡ w (w xs ∷ w ys ∷ [])
  two_parts xs ys = ap (λ zs. w (xs ++ zs)) (sym (append-nil ys)) ∙ sym (unites (xs ∷ ys ∷ []))

  -- the rest may be exchanged for one with the same union
  behind : (x : A) (xs ys : List A) → w xs ≡ w ys → w (x ∷ xs) ≡ w (x ∷ ys)
  behind x xs ys e = two_parts (x ∷ []) xs ∙ ap (λ r. w (w (x ∷ []) ∷ r ∷ [])) e ∙ sym (two_parts (x ∷ []) ys)

  first_two : (x y : A) (zs : List A) → w (x ∷ y ∷ zs) ≡ w (y ∷ x ∷ zs)
  first_two x y zs = two_parts (x ∷ y ∷ []) zs ∙ ap (λ r. w (r ∷ w zs ∷ [])) (swaps (x ∷ []) (y ∷ [])) ∙ sym (two_parts (y ∷ x ∷ []) zs)

  -- the first and a later one in each other's place
  first_and : (d x : A) (ys : List A) (j : ℕ) → j < length ys → w (slice_index_or ys j d ∷ slice_set ys j x) ≡ w (x ∷ ys)
  first_and d x [] j h = absurd (omega arith)
  first_and d x (y ∷ ys) zero h = first_two y x ys
  first_and d x (y ∷ ys) (suc j) h =
      first_two (slice_index_or ys j d) y (slice_set ys j x)
      ∙ behind y (slice_index_or ys j d ∷ slice_set ys j x) (x ∷ ys) (first_and d x ys j (omega arith))
      ∙ first_two y x ys

  exchange : (d : A) (xs : List A) (i j : ℕ) → i < length xs → j < length xs → w (slice_set (slice_set xs i (slice_index_or xs j d)) j (slice_index_or xs i d)) ≡ w xs
  exchange d [] i j h g = absurd (omega arith)
  exchange d (x ∷ xs) zero zero h g = refl
  exchange d (x ∷ xs) zero (suc j) h g = first_and d x xs j (omega arith)
  exchange d (x ∷ xs) (suc i) zero h g = first_and d x xs i (omega arith)
  exchange d (x ∷ xs) (suc i) (suc j) h g = behind x _ xs (exchange d xs i j (omega arith) (omega arith))

  swap-same : (xs : List A) (i j : ℕ) → i < length xs → j < length xs → w (swap xs i j) ≡ w xs
  swap-same [] i j h g = refl
  swap-same (x ∷ xs) i j h g = exchange x (x ∷ xs) i j h g

  pub any_order : (xs ys : List A) → IsPermutation xs ys → w xs ≡ w ys
  any_order xs ys p = IsPermutation-keeps xs (λ zs. w xs ≡ w zs) refl (λ zs i j h g e. e ∙ sym (swap-same zs i j h g)) ys p
