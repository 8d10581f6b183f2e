-- The last item of a list, by its place.
use Rattle.std.specs.Prelude.{◌≡◌, refl, ◌-◌, List, [], ◌∷◌, length, Some, None, slice_get}
use Rattle.std.specs.List.{last_or}
use Rattle.std.proofs.Common.{◌∙◌, ap, sym, arith}

module _ {X : Type 0} where
  slice_get-last : (x : X) (xs : List X) → slice_get (x ∷ xs) (length xs) ≡ last_or (Some x) xs
  slice_get-last x [] = refl
  slice_get-last x (y ∷ ys) = slice_get-last y ys

  pub last_is : (xs : List X) (b : X) → Some b ≡ slice_get xs (length xs - 1) → last_or None xs ≡ Some b
  last_is [] b h = absurd (cc (h))
  last_is (x ∷ xs) b h = let e : length (x ∷ xs) - 1 ≡ length xs = omega arith in sym (h ∙ ap (slice_get (x ∷ xs)) e ∙ slice_get-last x xs)
