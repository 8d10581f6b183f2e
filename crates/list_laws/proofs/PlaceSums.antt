-- Sums over a list, one term of which changes, and facts of each item.
use Rattle.std.proofs.Common.{◌≡◌, ◌≢◌, ℕ, zero, suc, ◌+◌, ◌≤◌, List, [], ◌∷◌, ◌++◌, set, sym, refl, ap, subst, ⊎_elim, arith}
use mathlib.Core.Option.{some, some-injective, some-ne-none}
use lib.ListN.{get_elem?}
use Rattle.list_laws.proofs.Places.{at_set, at_snoc}
use Rattle.std.specs.List.{sum_by}
use Rattle.std.proofs.lemmas.List.Sums.{sum_by-cons}

module _ {X : Type 0} where
  -- one term changes
  pub sum_by_set : (f : X → ℕ) (xs : List X) (i : ℕ) (v w : X) → get_elem? xs i ≡ some v → sum_by f (set xs i w) + f v ≡ sum_by f xs + f w
  sum_by_set f [] i v w e = absurd (some-ne-none v (sym e))
  sum_by_set f (x ∷ xs) zero v w e = let cf = sum_by-cons f x xs in let cs = sum_by-cons f w xs in let is : f x ≡ f v = ap f (some-injective x v e) in omega arith
  sum_by_set f (x ∷ xs) (suc i) v w e = let cf = sum_by-cons f x xs in let cs = sum_by-cons f x (set xs i w) in let r = sum_by_set f xs i v w e in omega arith

  -- f is at most g at each item, so what f leaves of g at one of them it leaves in the sums
  pub sum_by_below : (f g : X → ℕ) (xs : List X) → ((i : ℕ) (v : X) → get_elem? xs i ≡ some v → f v ≤ g v) → sum_by f xs ≤ sum_by g xs
  sum_by_below f g [] h = omega arith
  sum_by_below f g (x ∷ xs) h = let cf = sum_by-cons f x xs in let cg = sum_by-cons g x xs in let a : f x ≤ g x = h 0 x refl in let r = sum_by_below f g xs (λ i v e. h (suc i) v e) in omega arith

  -- and so in one element
  pub sum_by_rest : (f g : X → ℕ) (xs : List X) → ((i : ℕ) (v : X) → get_elem? xs i ≡ some v → f v ≤ g v) → (i : ℕ) (v : X) → get_elem? xs i ≡ some v → sum_by f xs + g v ≤ sum_by g xs + f v
  sum_by_rest f g [] h i v e = absurd (some-ne-none v (sym e))
  sum_by_rest f g (x ∷ xs) h zero v e = let cf = sum_by-cons f x xs in let cg = sum_by-cons g x xs in let is : f x ≡ f v = ap f (some-injective x v e) in let it : g x ≡ g v = ap g (some-injective x v e) in let r = sum_by_below f g xs (λ i v e. h (suc i) v e) in omega arith
  sum_by_rest f g (x ∷ xs) h (suc i) v e = let cf = sum_by-cons f x xs in let cg = sum_by-cons g x xs in let a : f x ≤ g x = h 0 x refl in let r = sum_by_rest f g xs (λ j u e. h (suc j) u e) i v e in omega arith

  -- one element's number is in the sum
  pub sum_by_has : (f : X → ℕ) (xs : List X) (i : ℕ) (v : X) → get_elem? xs i ≡ some v → f v ≤ sum_by f xs
  sum_by_has f [] i v e = absurd (some-ne-none v (sym e))
  sum_by_has f (x ∷ xs) zero v e = let cf = sum_by-cons f x xs in let is : f x ≡ f v = ap f (some-injective x v e) in omega arith
  sum_by_has f (x ∷ xs) (suc i) v e = let cf = sum_by-cons f x xs in let r = sum_by_has f xs i v e in omega arith

  -- F holds of each element
  abbrev pub Each : (X → Type 0) → List X → Type 0
  Each F xs = (i : ℕ) (v : X) → get_elem? xs i ≡ some v → F v

  -- one element changes
  pub each_set : (F : X → Type 0) (xs : List X) (i : ℕ) (w : X) → Each F xs → F w → Each F (set xs i w)
  each_set F xs i w h mine j u e = ⊎_elim (λ (x : (j ≡ i) × (w ≡ u)). subst F x.1 mine) (λ (x : (j ≢ i) × (get_elem? xs j ≡ some u)). h j u x.1) (at_set xs i j w u e)

  -- one element more
  pub each_snoc : (F : X → Type 0) (xs : List X) (w : X) → Each F xs → F w → Each F (xs ++ w ∷ [])
  each_snoc F xs w h mine j u e = ⊎_elim (λ (x : get_elem? xs j ≡ some u). h j u x) (λ (x : w ≡ u). subst F x mine) (at_snoc xs w u j e)

  -- two elements' numbers are in the sum
  pub sum_by_pair : (f : X → ℕ) (xs : List X) (i j : ℕ) (v u : X) → j ≢ i → get_elem? xs i ≡ some v → get_elem? xs j ≡ some u → f v + f u ≤ sum_by f xs
  sum_by_pair f [] i j v u n e d = absurd (some-ne-none v (sym e))
  sum_by_pair f (x ∷ xs) zero zero v u n e d = absurd (n refl)
  sum_by_pair f (x ∷ xs) zero (suc j) v u n e d = let cf = sum_by-cons f x xs in let is : f x ≡ f v = ap f (some-injective x v e) in let r = sum_by_has f xs j u d in omega arith
  sum_by_pair f (x ∷ xs) (suc i) zero v u n e d = let cf = sum_by-cons f x xs in let is : f x ≡ f u = ap f (some-injective x u d) in let r = sum_by_has f xs i v e in omega arith
  sum_by_pair f (x ∷ xs) (suc i) (suc j) v u n e d = let cf = sum_by-cons f x xs in let r = sum_by_pair f xs i j v u (λ z. n (ap suc z)) e d in omega arith
