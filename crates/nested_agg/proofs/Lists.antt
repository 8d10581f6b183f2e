-- The first items of a list, one more at a time.
use Rattle.std.proofs.Common.{◌≡◌, refl, ℕ, ◌+◌, ◌<◌, ◌≤◌, zero, suc, List, [], ◌∷◌, ◌++◌, length, get_or, take, map, Some, ◌∙◌, ap, arith, add-one}
use Rattle.std.specs.List.{slice_get, flat_map}
use Rattle.std.proofs.lemmas.List.{map_more}
use Rattle.list_laws.proofs.Lists.{append-nil, flat_map-append}

pub all_of : {A : Type 0} (xs : List A) (n : ℕ) → length xs ≤ n → take n xs ≡ xs
all_of [] zero le = refl
all_of [] (suc n) le = refl
all_of (x ∷ xs) zero le = absurd (omega arith)
all_of (x ∷ xs) (suc n) le = ap (λ (ys : List _). x ∷ ys) (all_of xs n (omega arith))

next_got : {A : Type 0} (xs : List A) (n : ℕ) (x : A) → slice_get xs n ≡ Some x → take (suc n) xs ≡ take n xs ++ x ∷ []
next_got [] n x is = absurd (cc is)
next_got (y ∷ ys) zero x is = let same : y ≡ x = cc is in ap (λ (z : _). z ∷ []) same
next_got (y ∷ ys) (suc n) x is = ap (λ (zs : List _). y ∷ zs) (next_got ys n x is)

pub take_got : {A : Type 0} (xs : List A) (n : ℕ) (x : A) → slice_get xs n ≡ Some x → take (n + 1) xs ≡ take n xs ++ x ∷ []
take_got xs n x is = ap (λ (k : ℕ). take k xs) (add-one n) ∙ next_got xs n x is

module _ {A B C : Type 0} (f : A → B) (g : B → List C) where
  -- what the first items give, with one more
  pub given_more : (xs : List A) (n : ℕ) (d : A) → n < length xs → flat_map g (map f (take (n + 1) xs)) ≡ flat_map g (map f (take n xs)) ++ g (f (get_or xs n d))
  given_more xs n d below =
      ap (flat_map g) (map_more f xs n d below)
      ∙ (flat_map-append g (map f (take n xs)) (f (get_or xs n d) ∷ [])
      ∙ ap (λ (ys : List C). flat_map g (map f (take n xs)) ++ ys) (append-nil (g (f (get_or xs n d)))))

  pub given_all : (xs : List A) (n : ℕ) → length xs ≤ n → flat_map g (map f (take n xs)) ≡ flat_map g (map f xs)
  given_all xs n le = ap (λ (ys : List A). flat_map g (map f ys)) (all_of xs n le)
