-- Byte order of the paths is a total order, in which items are sorted.
use Rattle.std.specs.Prelude.{◌≡◌, refl, ℕ, List, [], ◌∷◌, ◌++◌, map, Bool}
use Rattle.std.specs.Cmp.{IsTotalOrder, IsStrictWeakOrder}
use Rattle.std.proofs.Common.{sym, ap, subst, ◌∙◌}
use Rattle.std.proofs.lemmas.Cmp.{on_total, nat_list_cmp_total}
use Rattle.list_laws.specs.Sorting.{sorted}
use Rattle.list_laws.proofs.StableSort as laws
use Rattle.agg_reading.specs.Properties.{is_before, by_path, place}
use Rattle.agg_model.specs.MappingOrder.{AscendsBy}

module _ {A : Type 0} (path_of : A → List ℕ) where
  -- one of two items is at most the other, and this is transitive
  pub by_path_total : IsTotalOrder (by_path path_of)
  by_path_total = on_total path_of nat_list_cmp_total

  -- an item whose path is before another's
  abbrev pub below : A → A → Bool
  below x y = is_before (path_of x) (path_of y)

  -- it ranks the items
  pub weak : IsStrictWeakOrder below
  weak = laws.weak (by_path path_of) by_path_total

  -- one more item at the end is one more put in its place
  pub sorted-last : (xs : List A) (x : A) → sorted (by_path path_of) (xs ++ x ∷ []) ≡ place path_of x (sorted (by_path path_of) xs)
  unfolding place
  sorted-last xs x = laws.sorted-snoc (by_path path_of) by_path_total xs x

  -- items that stand as a sort leaves some
  pub record IsArranged (ys : List A) : Type 0 where
    pub found : List A
    pub is : ys ≡ sorted (by_path path_of) found

  pub arranged-none : IsArranged []
  arranged-none = record { found = []; is = refl }

  pub arranged-place : (x : A) (ys : List A) → IsArranged ys → IsArranged (place path_of x ys)
  arranged-place x ys h = record { found = h.found ++ x ∷ []; is = ap (place path_of x) h.is ∙ sym (sorted-last h.found x) }

  pub arranged-ascends : (ys : List A) → IsArranged ys → AscendsBy path_of ys
  arranged-ascends ys h = subst (AscendsBy path_of) (sym h.is) (laws.IsSortedBy-sorted (by_path path_of) by_path_total h.found)

-- what keeps paths keeps their order
pub ascend_mapped : {A B : Type 0} (f : A → B) (path_of : A → List ℕ) (new_path_of : B → List ℕ) → ((x : A) → new_path_of (f x) ≡ path_of x) → (xs : List A) → AscendsBy path_of xs → AscendsBy new_path_of (map f xs)
ascend_mapped f path_of new_path_of same xs up =
    laws.IsSortedBy-map f (below path_of) (below new_path_of) (λ x y. ap (λ p. is_before p (new_path_of (f y))) (same x) ∙ ap (is_before (path_of x)) (same y)) (weak path_of) xs up
