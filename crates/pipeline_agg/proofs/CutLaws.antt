-- Items that are turned round and cut behind the last that stays.
use Rattle.std.specs.Prelude.{◌≡◌, refl, ℕ, zero, suc, ◌≤◌, min, List, [], ◌∷◌, ◌++◌, take, drop, length, Option}
use Rattle.std.proofs.Common.{◌∙◌, ap, arith}
use Rattle.agg_spec.specs.Pipelines.{cut_from}

module _ {A : Type 0} where
  front-kept : (xs ys : List A) (n : ℕ) → n ≤ length xs → take n (xs ++ ys) ≡ take n xs
  front-kept xs ys zero low = refl
  front-kept [] ys (suc n) low = absurd (omega (arith, low))
  front-kept (x ∷ xs) ys (suc n) low = ap (λ zs. x ∷ zs) (front-kept xs ys n (omega (arith, low)))

  pub taken-all : (xs : List A) (n : ℕ) → length xs ≤ n → take n xs ≡ xs
  taken-all [] zero low = refl
  taken-all [] (suc n) low = refl
  taken-all (x ∷ xs) zero low = absurd (omega (arith, low))
  taken-all (x ∷ xs) (suc n) low = ap (λ zs. x ∷ zs) (taken-all xs n (omega (arith, low)))

  pub taken-least : (xs : List A) (n m : ℕ) → m ≡ min (length xs) n → take m xs ≡ take n xs
  taken-least [] zero m e = let none : m ≡ 0 = omega (arith, e) in ap (λ k. take k []) none
  taken-least [] (suc n) m e = let none : m ≡ 0 = omega (arith, e) in ap (λ k. take k []) none
  taken-least (x ∷ xs) zero m e = let none : m ≡ 0 = omega (arith, e) in ap (λ k. take k (x ∷ xs)) none
  taken-least (x ∷ xs) (suc n) m e =
      let more : m ≡ suc (min (length xs) n) = omega (arith, e) in
      ap (λ k. take k (x ∷ xs)) more ∙ ap (λ zs. x ∷ zs) (taken-least xs n (min (length xs) n) refl)

  -- what is turned to the front and cut there is what stood from the start on
  pub cut-turned : (xs : List A) (start kept : ℕ) (size : Option ℕ) → kept ≤ length (drop start xs)
      → take kept (drop start xs) ≡ cut_from start size xs → take kept (drop start xs ++ take start xs) ≡ cut_from start size xs
  cut-turned xs start kept size low same = front-kept (drop start xs) (take start xs) kept low ∙ same
