-- Sums over lists, and sums that are at most others.
use Rattle.std.specs.Prelude.{◌≡◌, refl, ℕ, zero, suc, ◌+◌, ◌*◌, ◌≤◌, Bool, true, false, cond, ◌&&◌, ◌||◌, List, [], ◌∷◌, ◌++◌, filter, sum_by, take, if◌then◌else◌}
use Rattle.std.specs.declared.cmp.Ordering.{Ordering}
use Rattle.std.specs.Ordering.{is_le}
use Rattle.std.proofs.Common.{sym, ◌∙◌, ap, arith}
use Rattle.std.proofs.lemmas.List.Sums.{sum_by-cons, sum_by-append}
use Rattle.list_laws.specs.Sorting.{insert_sorted, sorted}

module _ {A : Type 0} (f : A → ℕ) where
  -- what passes a test sums up to at most all
  pub sum_by-filter : (p : A → Bool) (xs : List A) → sum_by f (filter p xs) ≤ sum_by f xs
  sum_by-filter p [] = omega arith
  sum_by-filter p (x ∷ xs) =
      let whole = sum_by-cons f x xs in
      let rest = sum_by-filter p xs in
      elim (p x) as (λ b. sum_by f (cond b (x ∷ filter p xs) (filter p xs)) ≤ sum_by f (x ∷ xs)) [
        | true ↦ let part = sum_by-cons f x (filter p xs) in omega arith
        | false ↦ omega arith
      ]

  -- the first items sum up to at most all

  pub sum_by-take : (n : ℕ) (xs : List A) → sum_by f (take n xs) ≤ sum_by f xs
  sum_by-take zero xs = omega arith
  sum_by-take (suc n) [] = omega arith
  sum_by-take (suc n) (x ∷ xs) =
      let whole = sum_by-cons f x xs in
      let part = sum_by-cons f x (take n xs) in
      let rest = sum_by-take n xs in
      omega arith

  -- an insertion adds its item

  sum_by-insert : (cmp : A → A → Ordering) (x : A) (ys : List A) → sum_by f (insert_sorted cmp x ys) ≡ f x + sum_by f ys
  sum_by-insert cmp x [] = sum_by-cons f x []
  sum_by-insert cmp x (y ∷ ys) =
      let whole = sum_by-cons f y ys in
      elim (is_le (cmp x y)) as (λ b. sum_by f (if b then x ∷ y ∷ ys else (y ∷ insert_sorted cmp x ys)) ≡ f x + sum_by f (y ∷ ys)) [
        | true ↦ sum_by-cons f x (y ∷ ys)
        | false ↦ let made = sum_by-cons f y (insert_sorted cmp x ys) in let rest = sum_by-insert cmp x ys in omega arith
      ]

  -- a sorted list has the sum of the list

  pub sum_by-sorted : (cmp : A → A → Ordering) (xs : List A) → sum_by f (sorted cmp xs) ≡ sum_by f xs
  sum_by-sorted cmp [] = refl
  sum_by-sorted cmp (x ∷ xs) =
      let here = sum_by-insert cmp x (sorted cmp xs) in
      let whole = sum_by-cons f x xs in
      let rest = sum_by-sorted cmp xs in
      omega arith

  -- a list that is filtered by either test is at most what both filter
  pub sum_by-either : (p q r : A → Bool) (xs : List A) → sum_by f (filter (λ x. p x && (q x || r x)) xs) ≤ sum_by f (filter (λ x. p x && q x) xs) + sum_by f (filter (λ x. p x && r x) xs)
  sum_by-either p q r [] = omega arith
  sum_by-either p q r (x ∷ xs) =
      let rest = sum_by-either p q r xs in
      let both = filter (λ x. p x && (q x || r x)) xs in
      let first = filter (λ x. p x && q x) xs in
      let second = filter (λ x. p x && r x) xs in
      let b = sum_by-cons f x both in
      let c = sum_by-cons f x first in
      let d = sum_by-cons f x second in
      elim (p x) as (λ u. sum_by f (cond (u && (q x || r x)) (x ∷ both) both) ≤ sum_by f (cond (u && q x) (x ∷ first) first) + sum_by f (cond (u && r x) (x ∷ second) second)) [
        | true ↦ elim (q x) as (λ v. sum_by f (cond (v || r x) (x ∷ both) both) ≤ sum_by f (cond v (x ∷ first) first) + sum_by f (cond (r x) (x ∷ second) second)) [
          | true ↦ elim (r x) as (λ w. sum_by f (x ∷ both) ≤ sum_by f (x ∷ first) + sum_by f (cond w (x ∷ second) second)) [ true ↦ omega arith | false ↦ omega arith ]
          | false ↦ elim (r x) as (λ w. sum_by f (cond w (x ∷ both) both) ≤ sum_by f first + sum_by f (cond w (x ∷ second) second)) [ true ↦ omega arith | false ↦ rest ]
        ]
        | false ↦ rest
      ]

-- numbers that are at most others sum up to at most their sum

pub sum_by-at_most : {A : Type 0} (f g : A → ℕ) (xs : List A) → ((x : A) → f x ≤ g x) → sum_by f xs ≤ sum_by g xs
sum_by-at_most f g [] h = omega arith
sum_by-at_most f g (x ∷ xs) h =
    let here = sum_by-cons f x xs in
    let there = sum_by-cons g x xs in
    let first = h x in
    let rest = sum_by-at_most f g xs h in
    omega arith

-- a sum of sums

pub sum_by-plus : {A : Type 0} (f g : A → ℕ) (xs : List A) → sum_by (λ x. f x + g x) xs ≡ sum_by f xs + sum_by g xs
sum_by-plus f g [] = refl
sum_by-plus f g (x ∷ xs) =
    let both = sum_by-cons (λ x. f x + g x) x xs in
    let here = sum_by-cons f x xs in
    let there = sum_by-cons g x xs in
    let rest = sum_by-plus f g xs in
    omega arith

-- zeros sum up to zero

pub sum_by-zero : {A : Type 0} (xs : List A) → sum_by (λ x. 0) xs ≡ 0
sum_by-zero [] = refl
sum_by-zero (x ∷ xs) = let here = sum_by-cons (λ x. 0) x xs in let rest = sum_by-zero xs in omega arith

-- a sum of multiples

pub sum_by-times : {A : Type 0} (n : ℕ) (f : A → ℕ) (xs : List A) → sum_by (λ x. n * f x) xs ≡ n * sum_by f xs
sum_by-times n f [] = omega arith
sum_by-times n f (x ∷ xs) =
    let scaled = sum_by-cons (λ x. n * f x) x xs in
    let plain = sum_by-cons f x xs in
    let rest = sum_by-times n f xs in
    let product : n * (f x + sum_by f xs) ≡ n * f x + n * sum_by f xs = omega arith in
    scaled ∙ ap (λ m. n * f x + m) rest ∙ sym product ∙ ap (λ m. n * m) (sym plain)

-- a sum over a product, in either order
pub sum_by-exchange : {A B : Type 0} (f : A → B → ℕ) (xs : List A) (ys : List B) → sum_by (λ x. sum_by (f x) ys) xs ≡ sum_by (λ y. sum_by (λ x. f x y) xs) ys
sum_by-exchange f [] ys = sym (sum_by-zero ys)
sum_by-exchange f (x ∷ xs) ys =
    sum_by-cons (λ x. sum_by (f x) ys) x xs ∙ ap (λ n. sum_by (f x) ys + n) (sum_by-exchange f xs ys)
    ∙ sym ((λ i. sum_by (λ y. sum_by-cons (λ x. f x y) x xs i) ys) ∙ sum_by-plus (f x) (λ y. sum_by (λ x. f x y) xs) ys)

-- a sum over what passes
pub sum_by-where : {A : Type 0} (f : A → ℕ) (p : A → Bool) (xs : List A) → sum_by f (filter p xs) ≡ sum_by (λ x. cond (p x) (f x) 0) xs
sum_by-where f p [] = refl
sum_by-where f p (x ∷ xs) =
    let whole = sum_by-cons (λ x. cond (p x) (f x) 0) x xs in
    let rest = sum_by-where f p xs in
    sym (whole ∙ elim (p x) as (λ b. cond b (f x) 0 + sum_by (λ x. cond (p x) (f x) 0) xs ≡ sum_by f (cond b (x ∷ filter p xs) (filter p xs))) [
      | true ↦ let part = sum_by-cons f x (filter p xs) in omega arith
      | false ↦ omega arith
    ])

-- a sum over two lists, in either order
pub sum-swap : {A : Type 0} (f : A → ℕ) (xs ys : List A) → sum_by f (xs ++ ys) ≡ sum_by f (ys ++ xs)
sum-swap f xs ys = sum_by-append f xs ys ∙ (let e : sum_by f xs + sum_by f ys ≡ sum_by f ys + sum_by f xs = omega arith in e) ∙ sym (sum_by-append f ys xs)
