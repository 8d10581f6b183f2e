-- Lists read by `get_elem?`, after one element changed or was added.
use Rattle.std.proofs.Common.{◌≡◌, ◌≢◌, ◌⊎◌, ℕ, zero, suc, ◌<◌, List, [], ◌∷◌, ◌++◌, length, set, sym, refl, ap, inl, inr, ⊎_elim, arith}
use mathlib.Core.Option.{some, some-injective, some-ne-none}
use lib.ListN.{get_elem?}

module _ {A : Type 0} where
  -- what stands at j after i was set: the new element, or the old one
  pub at_set : (l : List A) (i j : ℕ) (a b : A) → get_elem? (set l i a) j ≡ some b → ((j ≡ i) × (a ≡ b)) ⊎ ((j ≢ i) × (get_elem? l j ≡ some b))
  at_set [] i j a b e = absurd (some-ne-none b (sym e))
  at_set (x ∷ xs) zero zero a b e = inl (refl, some-injective a b e)
  at_set (x ∷ xs) zero (suc j) a b e = inr ((λ h. omega arith), e)
  at_set (x ∷ xs) (suc i) zero a b e = inr ((λ h. omega arith), e)
  at_set (x ∷ xs) (suc i) (suc j) a b e = ⊎_elim (λ t. inl (ap suc t.0, t.1)) (λ t. let n = t.0 in inr ((λ h. n (omega arith)), t.1)) (at_set xs i j a b e)

  -- the element that was set
  pub set_here : (l : List A) (i : ℕ) (a : A) → i < length l → get_elem? (set l i a) i ≡ some a
  set_here [] i a h = absurd (omega arith)
  set_here (x ∷ xs) zero a h = refl
  set_here (x ∷ xs) (suc i) a h = set_here xs i a (omega arith)

  -- and every other
  pub set_else : (l : List A) (i j : ℕ) (a : A) → j ≢ i → get_elem? (set l i a) j ≡ get_elem? l j
  set_else [] i j a n = refl
  set_else (x ∷ xs) zero zero a n = absurd (n refl)
  set_else (x ∷ xs) zero (suc j) a n = refl
  set_else (x ∷ xs) (suc i) zero a n = refl
  set_else (x ∷ xs) (suc i) (suc j) a n = set_else xs i j a (λ e. n (ap suc e))

  -- what stands in a list with one element more
  pub at_snoc : (l : List A) (a b : A) (j : ℕ) → get_elem? (l ++ a ∷ []) j ≡ some b → (get_elem? l j ≡ some b) ⊎ (a ≡ b)
  at_snoc [] a b zero e = inr (some-injective a b e)
  at_snoc [] a b (suc j) e = absurd (some-ne-none b (sym e))
  at_snoc (x ∷ xs) a b zero e = inl e
  at_snoc (x ∷ xs) a b (suc j) e = at_snoc xs a b j e

  -- an element stands below the length
  pub there_below : (l : List A) (j : ℕ) (a : A) → get_elem? l j ≡ some a → j < length l
  there_below [] j a e = absurd (some-ne-none a (sym e))
  there_below (x ∷ xs) zero a e = omega arith
  there_below (x ∷ xs) (suc j) a e = let r = there_below xs j a e in omega arith
