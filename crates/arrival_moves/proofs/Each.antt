-- A fact of each element of a list, kept where one item of a hand gives way to others.
use Rattle.std.proofs.Common.{◌≡◌, zero, suc, Bool, List, [], ◌∷◌, ◌++◌, sym, refl, subst}
use Rattle.std.proofs.lemmas.Bool.{cond_both}
use mathlib.Core.Option.{Option, some, some-injective, some-ne-none}
use Rattle.arrival_moves.specs.declared.item.Item.{Item}
use Rattle.arrival_moves.specs.Hands.{find_item, exchanged}
use Rattle.list_laws.proofs.PlaceSums.{Each}

module _ {X : Type 0} (F : X → Type 0) where
  -- of no element
  pub each_none : Each F []
  each_none i v e = absurd (some-ne-none v (sym e))

  -- of one element more
  pub each_cons : (x : X) (xs : List X) → F x → Each F xs → Each F (x ∷ xs)
  each_cons x xs f h zero v e = subst F (some-injective x v e) f
  each_cons x xs f h (suc i) v e = h i v e

  -- of one element
  pub each_one : (x : X) → F x → Each F (x ∷ [])
  each_one x f = each_cons x [] f each_none

  -- of the elements behind the first
  pub each_tail : (x : X) (xs : List X) → Each F (x ∷ xs) → Each F xs
  each_tail x xs h i v e = h (suc i) v e

  -- of two lists in a row
  pub each_append : (xs ys : List X) → Each F xs → Each F ys → Each F (xs ++ ys)
  each_append [] ys h k = k
  each_append (x ∷ xs) ys h k = each_cons x (xs ++ ys) (h 0 x refl) (each_append xs ys (each_tail x xs h) k)

module _ (F : Item → Type 0) where
  -- the others for the first that is meant
  pub each_exchanged : (is : Item → Bool) (ys xs : List Item) → Each F xs → Each F ys → Each F (exchanged is ys xs)
  each_exchanged is ys [] h k = each_none F
  each_exchanged is ys (x ∷ xs) h k = cond_both (is x) (ys ++ xs) (x ∷ exchanged is ys xs) (Each F) (λ _. each_append F ys xs k (each_tail F x xs h)) (λ _. each_cons F x (exchanged is ys xs) (h 0 x refl) (each_exchanged is ys xs (each_tail F x xs h) k))

  -- the item that is found is one of the list
  pub each_found : (is : Item → Bool) (xs : List Item) (x : Item) → find_item is xs ≡ some x → Each F xs → F x
  each_found is [] x e h = absurd (some-ne-none x (sym e))
  each_found is (y ∷ xs) x e h = cond_both (is y) (some y) (find_item is xs) (λ (o : Option Item). o ≡ some x → F x) (λ _ g. subst F (some-injective y x g) (h 0 y refl)) (λ _ g. each_found is xs x g (each_tail F y xs h)) e
