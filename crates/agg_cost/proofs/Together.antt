-- The ceilings of a search's tasks, one after another, and what they come to together.
use Rattle.std.specs.Prelude.{◌≡◌, refl, ℕ, ◌+◌, ◌^◌, ◌<◌, ◌≤◌, if◌then◌else◌, List, [], ◌∷◌, ◌++◌, sum, Option, Some, None, option_and_then, option_map}
use Rattle.std.proofs.Common.{◌∙◌, ap, arith}
use Rattle.std.proofs.lemmas.Bool.{lt-ltb, le-ltb}
use Rattle.std.proofs.lemmas.List.Sums.{sum_by-append}
use Rattle.agg_evaluation.specs.Ceiling.{greatest_ceiling, sum_of_all, within_greatest}

-- what ceilings come to behind so many bytes
abbrev pub together : ℕ → List (Option ℕ) → Option ℕ
together bytes xs = option_and_then within_greatest (option_map (λ n. bytes + n) (sum_of_all xs))

pub together-all : (xs : List (Option ℕ)) → together 0 xs ≡ option_and_then within_greatest (sum_of_all xs)
together-all xs = by_sum (sum_of_all xs)
  where
    by_sum : (o : Option ℕ) → option_and_then within_greatest (option_map (λ n. 0 + n) o) ≡ option_and_then within_greatest o
    by_sum None = refl
    by_sum (Some n) = ap within_greatest (omega arith)

-- one of them
pub together-next : (bytes n : ℕ) (xs : List (Option ℕ)) → together bytes (Some n ∷ xs) ≡ together (bytes + n) xs
together-next bytes n xs = by_sum (sum_of_all xs)
  where
    by_sum : (o : Option ℕ) → option_and_then within_greatest (option_map (λ m. bytes + m) (option_map (λ rest. n + rest) o)) ≡ option_and_then within_greatest (option_map (λ m. bytes + n + m) o)
    by_sum None = refl
    by_sum (Some m) = ap within_greatest (omega arith)

-- too many bytes already
pub together-high : (bytes : ℕ) (xs : List (Option ℕ)) → 2 ^ 50 < bytes → together bytes xs ≡ None
together-high bytes xs high = by_sum (sum_of_all xs)
  where
    by_sum : (o : Option ℕ) → option_and_then within_greatest (option_map (λ n. bytes + n) o) ≡ None
    by_sum None = refl
    by_sum (Some n) = ap (λ b. if b then None else Some (bytes + n)) (lt-ltb greatest_ceiling (bytes + n) (omega arith))

-- all of them, and no more
pub together-end : (bytes : ℕ) → bytes ≤ 2 ^ 50 → together bytes [] ≡ Some bytes
together-end bytes low = ap (λ b. if b then None else Some (bytes + 0)) (le-ltb greatest_ceiling (bytes + 0) (omega arith)) ∙ ap (λ n. Some n) (omega arith)

pub sum-more : (xs : List ℕ) (n : ℕ) → sum (xs ++ n ∷ []) ≡ sum xs + n
sum-more xs n = sum_by-append (λ m. m) xs (n ∷ []) ∙ omega arith
