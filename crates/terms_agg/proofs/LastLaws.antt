-- The last item of a list, by its place and by recursion.
use Rattle.std.specs.Prelude.{◌≡◌, ◌-◌, List, [], ◌∷◌, map, length, slice_get, Option, Some, None, option_map}
use Rattle.std.specs.List.{last_or}
use Rattle.std.proofs.Common.{sym, ◌∙◌, ap, arith, suc}

module _ {A B : Type 0} (f : A → B) where
  last_of_more : (o : Option B) (x : A) (xs : List A) (last : A) → slice_get (x ∷ xs) (length xs) ≡ Some last → last_or o (map f (x ∷ xs)) ≡ Some (f last)
  last_of_more o x [] last is = ap (option_map f) is
  last_of_more o x (y ∷ ys) last is = last_of_more (Some (f x)) y ys last is

  pub last_or-map : (xs : List A) (last : A) → slice_get xs (length xs - 1) ≡ Some last → last_or None (map f xs) ≡ Some (f last)
  last_or-map [] last is = ap (option_map f) is
  last_or-map (x ∷ xs) last is =
      let before : suc (length xs) - 1 ≡ length xs = omega arith in
      last_of_more None x xs last (sym (ap (slice_get (x ∷ xs)) before) ∙ is)
