-- The one body that one worker is given at a time.
use Rattle.std.specs.Prelude.{◌≡◌, ◌≤◌, ℕ, List, [], ◌∷◌, length, map, slice_index_or}
use Rattle.std.proofs.Common.{sym, ap, arith}

pub one-body : {A B : Type 0} (f : A → B) (xs : List A) (a : A) (most : ℕ) → 1 ≤ length xs → length xs ≤ most → most ≡ 1 → a ≡ slice_index_or xs 0 a → map f xs ≡ f a ∷ []
one-body f [] a most some few one is = absurd (omega (arith, some))
one-body f (x ∷ []) a most some few one is = ap (λ y. f y ∷ []) (sym is)
one-body f (x ∷ y ∷ rest) a most some few one is = absurd (omega (arith, few, one))
