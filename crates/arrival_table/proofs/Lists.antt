-- A word among the words of the table.
use Rattle.std.proofs.Common.{◌≡◌, ℕ, zero, suc, ◌+◌, ◌<◌, List, [], ◌∷◌, ◌++◌, length, get_or, set, refl, ap, arith}

-- a word that is set to what it is
pub set_word : (ws : List ℕ) (i : ℕ) → set ws i (get_or ws i 0) ≡ ws
set_word [] i = refl
set_word (x ∷ xs) zero = refl
set_word (x ∷ xs) (suc i) = ap (λ ys. x ∷ ys) (set_word xs i)

-- a word of the first part, and one of the second
pub get_left : (xs ys : List ℕ) (i : ℕ) → i < length xs → get_or (xs ++ ys) i 0 ≡ get_or xs i 0
get_left [] ys i h = absurd (omega arith)
get_left (x ∷ xs) ys zero h = refl
get_left (x ∷ xs) ys (suc i) h = get_left xs ys i (omega arith)

pub set_left : (xs ys : List ℕ) (i z : ℕ) → i < length xs → set (xs ++ ys) i z ≡ set xs i z ++ ys
set_left [] ys i z h = absurd (omega arith)
set_left (x ∷ xs) ys zero z h = refl
set_left (x ∷ xs) ys (suc i) z h = ap (λ ws. x ∷ ws) (set_left xs ys i z (omega arith))

pub get_right : (xs ys : List ℕ) (j i : ℕ) → j ≡ length xs + i → get_or (xs ++ ys) j 0 ≡ get_or ys i 0
get_right [] ys j i e = let d : j ≡ i = omega arith in ap (λ z. get_or ys z 0) d
get_right (x ∷ xs) ys zero i e = absurd (omega arith)
get_right (x ∷ xs) ys (suc j) i e = get_right xs ys j i (omega arith)

pub set_right : (xs ys : List ℕ) (j i z : ℕ) → j ≡ length xs + i → set (xs ++ ys) j z ≡ xs ++ set ys i z
set_right [] ys j i z e = let d : j ≡ i = omega arith in ap (λ k. set ys k z) d
set_right (x ∷ xs) ys zero i z e = absurd (omega arith)
set_right (x ∷ xs) ys (suc j) i z e = ap (λ ws. x ∷ ws) (set_right xs ys j i z (omega arith))
