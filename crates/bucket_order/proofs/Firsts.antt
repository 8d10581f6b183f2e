-- The first items of a sorted list, while one more is put into its place.
use Rattle.std.specs.Prelude.{◌≡◌, refl, ℕ, zero, suc, ◌≤◌, ◌-◌, Bool, true, false, cond, List, [], ◌∷◌, ◌++◌, length, take, drop, slice_get, Some}
use Rattle.std.specs.declared.cmp.Ordering.{Ordering}
use Rattle.std.specs.Cmp.{IsTotalOrder}
use Rattle.std.specs.Ordering.{is_le}
use Rattle.std.proofs.Common.{sym, ◌∙◌, ap, arith, ⊎_elim, append_assoc}
use Rattle.std.proofs.lemmas.List.{take-append-drop}
use Rattle.std.proofs.lemmas.Bool.{cases_Bool, true≢false}
use Rattle.list_laws.proofs.Options.{none_some, some_same}
use Rattle.list_laws.proofs.StableSort.{Ascends, AtLeast, above, at_most, below, weak}
use Rattle.list_laws.specs.Sorting.{insert_sorted}

-- the items from one on
pub drop-at : {A : Type 0} (xs : List A) (i : ℕ) (x : A) → slice_get xs i ≡ Some x → drop i xs ≡ x ∷ drop (suc i) xs
drop-at [] zero x e = none_some x e
drop-at [] (suc i) x e = none_some x e
drop-at (y ∷ xs) zero x e = ap (λ z. z ∷ xs) (some_same y x e)
drop-at (y ∷ xs) (suc i) x e = drop-at xs i x e

pub take-at : {A : Type 0} (xs : List A) (i : ℕ) (x : A) → slice_get xs i ≡ Some x → take (suc i) xs ≡ take i xs ++ x ∷ []
take-at [] zero x e = none_some x e
take-at [] (suc i) x e = none_some x e
take-at (y ∷ xs) zero x e = ap (λ z. z ∷ []) (some_same y x e)
take-at (y ∷ xs) (suc i) x e = ap (λ zs. y ∷ zs) (take-at xs i x e)

take-less : {A : Type 0} (j k : ℕ) (xs : List A) → j ≤ k → take j (take k xs) ≡ take j xs
take-less zero k xs l = refl
take-less (suc j) zero xs l = absurd (omega arith)
take-less (suc j) (suc k) [] l = refl
take-less (suc j) (suc k) (x ∷ xs) l = ap (λ zs. x ∷ zs) (take-less j k xs (omega arith))

pub take-exact : {A : Type 0} (n : ℕ) (xs ys : List A) → length xs ≡ n → take n (xs ++ ys) ≡ xs
take-exact zero [] ys e = refl
take-exact (suc n) [] ys e = absurd (omega arith)
take-exact zero (x ∷ xs) ys e = absurd (omega arith)
take-exact (suc n) (x ∷ xs) ys e = ap (λ zs. x ∷ zs) (take-exact n xs ys (omega arith))

take-whole : {A : Type 0} (xs : List A) → take (length xs) xs ≡ xs
take-whole [] = refl
take-whole (x ∷ xs) = ap (λ zs. x ∷ zs) (take-whole xs)

drop-whole : {A : Type 0} (xs : List A) → drop (length xs) xs ≡ []
drop-whole [] = refl
drop-whole (x ∷ xs) = drop-whole xs

drop-exact : {A : Type 0} (xs ys : List A) → drop (length xs) (xs ++ ys) ≡ ys
drop-exact [] ys = refl
drop-exact (x ∷ xs) ys = drop-exact xs ys

-- a list from which the last of its first items is taken
pub last-taken : {A : Type 0} (all old new : List A) (x : A) → old ≡ take (length old) all → old ≡ new ++ x ∷ [] → (drop (length new) all ≡ x ∷ drop (length old) all) × (new ≡ take (length new) all)
last-taken all old new x first last =
    let whole : all ≡ new ++ (x ∷ drop (length old) all) = sym (take-append-drop (length old) all) ∙ ap (λ xs. xs ++ drop (length old) all) (sym first ∙ last) ∙ append_assoc new (x ∷ []) (drop (length old) all) in
    (ap (drop (length new)) whole ∙ drop-exact new (x ∷ drop (length old) all), sym (ap (take (length new)) whole ∙ take-exact (length new) new (x ∷ drop (length old) all) refl))

pub length-take-most : {A : Type 0} (n : ℕ) (xs : List A) → length (take n xs) ≤ n
length-take-most zero xs = omega arith
length-take-most (suc n) [] = omega arith
length-take-most (suc n) (x ∷ xs) = let h = length-take-most n xs in omega arith

module _ {A : Type 0} (cmp : A → A → Ordering) where
  -- an item that goes in front of the first, and one that goes behind it
  pub first-is : (x y : A) (ys : List A) → is_le (cmp x y) ≡ true → insert_sorted cmp x (y ∷ ys) ≡ x ∷ y ∷ ys
  first-is x y ys e = ap (λ b. cond b (x ∷ y ∷ ys) (y ∷ insert_sorted cmp x ys)) e

  pub behind-is : (x y : A) (ys : List A) → is_le (cmp x y) ≡ false → insert_sorted cmp x (y ∷ ys) ≡ y ∷ insert_sorted cmp x ys
  behind-is x y ys e = ap (λ b. cond b (x ∷ y ∷ ys) (y ∷ insert_sorted cmp x ys)) e

  -- only the first of the others matter
  pub take-insert : (k : ℕ) (x : A) (ys : List A) → take k (insert_sorted cmp x (take k ys)) ≡ take k (insert_sorted cmp x ys)
  take-insert zero x ys = refl
  take-insert (suc k) x [] = refl
  take-insert (suc k) x (y ∷ ys) =
      elim (is_le (cmp x y)) as (λ b. take (suc k) (cond b (x ∷ y ∷ take k ys) (y ∷ insert_sorted cmp x (take k ys))) ≡ take (suc k) (cond b (x ∷ y ∷ ys) (y ∷ insert_sorted cmp x ys))) [
        | true ↦ ap (λ zs. x ∷ zs) (take-less k (suc k) (y ∷ ys) (omega arith))
        | false ↦ ap (λ zs. y ∷ zs) (take-insert k x ys)
      ]

module _ {A : Type 0} (lt : A → A → Bool) where
  at-least-take : (x : A) (k : ℕ) (ys : List A) → AtLeast lt x ys → AtLeast lt x (take k ys)
  at-least-take x zero ys h = tt
  at-least-take x (suc k) [] h = tt
  at-least-take x (suc k) (y ∷ ys) h = (h.0, at-least-take x k ys h.1)

  pub ascends-take : (k : ℕ) (xs : List A) → Ascends lt xs → Ascends lt (take k xs)
  ascends-take zero xs up = tt
  ascends-take (suc k) [] up = tt
  ascends-take (suc k) (x ∷ xs) up = (at-least-take x k xs up.0, ascends-take k xs up.1)

  at-least-at : (x y : A) (ys : List A) (i : ℕ) → AtLeast lt x ys → slice_get ys i ≡ Some y → lt y x ≡ false
  at-least-at x y [] zero h e = none_some y e
  at-least-at x y [] (suc i) h e = none_some y e
  at-least-at x y (z ∷ ys) zero h e = ap (λ w. lt w x) (sym (some_same z y e)) ∙ h.0
  at-least-at x y (z ∷ ys) (suc i) h e = at-least-at x y ys i h.1 e

module _ {A : Type 0} (cmp : A → A → Ordering) (total : IsTotalOrder cmp) where
  -- an item behind one of ascending items is behind those before it
  pub behind-place : (x y : A) (ys : List A) (i : ℕ) → Ascends (below cmp total) ys → slice_get ys i ≡ Some y → is_le (cmp x y) ≡ false
      → insert_sorted cmp x ys ≡ take (suc i) ys ++ insert_sorted cmp x (drop (suc i) ys)
  behind-place x y [] zero up at e = none_some y at
  behind-place x y [] (suc i) up at e = none_some y at
  behind-place x y (z ∷ ys) zero up at e = behind-is cmp x z ys (ap (λ w. is_le (cmp x w)) (some_same z y at) ∙ e)
  behind-place x y (z ∷ ys) (suc i) up at e =
      let ahead : is_le (cmp x z) ≡ false = ⊎_elim (λ t. absurd (true≢false (sym (above cmp total x y e) ∙ (weak cmp total).chain y z x (at-least-at (below cmp total) z y ys i up.0 at) (at_most cmp total x z t)))) (λ f. f) (cases_Bool (is_le (cmp x z))) in
      behind-is cmp x z ys ahead ∙ ap (λ zs. z ∷ zs) (behind-place x y ys i up.1 at e)

  -- an item behind the last of ascending items goes to the end
  pub behind-last : (x y : A) (ys : List A) → Ascends (below cmp total) ys → slice_get ys (length ys - 1) ≡ Some y → is_le (cmp x y) ≡ false → insert_sorted cmp x ys ≡ ys ++ x ∷ []
  behind-last x y [] up at e = refl
  behind-last x y (z ∷ ys) up at e =
      let n = length ys in
      let last : slice_get (z ∷ ys) n ≡ Some y = ap (slice_get (z ∷ ys)) (omega arith) ∙ at in
      behind-place x y (z ∷ ys) n up last e ∙ (λ i. take-whole (z ∷ ys) i ++ insert_sorted cmp x (drop-whole (z ∷ ys) i))
