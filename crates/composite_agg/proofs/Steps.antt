-- Lists that are walked from the front.
use Rattle.std.proofs.Common.{◌≡◌, refl, ℕ, zero, suc, ◌+◌, ◌<◌, ◌≤◌, List, [], ◌∷◌, ◌++◌, length, get_or, take, drop, sym, ap, subst, arith, add-one}

drop-next : {A : Type 0} (xs : List A) (i : ℕ) (x : A) → i < length xs → x ≡ get_or xs i x → drop i xs ≡ x ∷ drop (suc i) xs
drop-next [] i x below is = absurd (omega (arith, below))
drop-next (y ∷ ys) zero x below is = ap (λ z. z ∷ ys) (sym is)
drop-next (y ∷ ys) (suc i) x below is = drop-next ys i x (omega (arith, below)) is

-- the item at a place, and those behind it
pub drop-at : {A : Type 0} (xs : List A) (i : ℕ) (x : A) → i < length xs → x ≡ get_or xs i x → drop i xs ≡ x ∷ drop (i + 1) xs
drop-at xs i x below is = subst (λ k. drop i xs ≡ x ∷ drop k xs) (sym (add-one i)) (drop-next xs i x below is)

take-next : {A : Type 0} (xs : List A) (i : ℕ) (x : A) → i < length xs → x ≡ get_or xs i x → take (suc i) xs ≡ take i xs ++ x ∷ []
take-next [] i x below is = absurd (omega (arith, below))
take-next (y ∷ ys) zero x below is = ap (λ z. z ∷ []) (sym is)
take-next (y ∷ ys) (suc i) x below is = ap (λ zs. y ∷ zs) (take-next ys i x (omega (arith, below)) is)

-- those before a place, and the item there
pub take-at : {A : Type 0} (xs : List A) (i : ℕ) (x : A) → i < length xs → x ≡ get_or xs i x → take (i + 1) xs ≡ take i xs ++ x ∷ []
take-at xs i x below is = subst (λ k. take k xs ≡ take i xs ++ x ∷ []) (sym (add-one i)) (take-next xs i x below is)

pub take-whole : {A : Type 0} (xs : List A) (n : ℕ) → length xs ≤ n → take n xs ≡ xs
take-whole [] zero le = refl
take-whole [] (suc n) le = refl
take-whole (x ∷ xs) zero le = absurd (omega (arith, le))
take-whole (x ∷ xs) (suc n) le = ap (λ ys. x ∷ ys) (take-whole xs n (omega (arith, le)))

pub drop-whole : {A : Type 0} (xs : List A) (n : ℕ) → length xs ≤ n → drop n xs ≡ []
drop-whole [] zero le = refl
drop-whole [] (suc n) le = refl
drop-whole (x ∷ xs) zero le = absurd (omega (arith, le))
drop-whole (x ∷ xs) (suc n) le = drop-whole xs n (omega (arith, le))
