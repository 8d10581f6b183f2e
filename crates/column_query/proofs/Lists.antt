-- Tests of a list, item by item.
use Rattle.std.proofs.Common.{◌≡◌, refl, ℕ, ◌+◌, ◌≤◌, zero, suc, Bool, true, false, List, [], ◌∷◌, ◌++◌, length, take, filter, map, Some, sym, ◌∙◌, ap, subst, arith, add-one, cond}
use Rattle.std.specs.Prelude.{◌||◌, ◌&&◌}
use Rattle.std.specs.List.{list_any, list_all, slice_get}
use Rattle.std.proofs.lemmas.Bool.{or_right}

or_false : (a b c : Bool) → (a || b) ≡ false → (b ≡ false → c ≡ false) → (a || c) ≡ false
or_false true b c e next = absurd (cc e)
or_false false b c e next = next e

and_true : (a b c : Bool) → (a && b) ≡ true → (b ≡ true → c ≡ true) → (a && c) ≡ true
and_true true b c e next = next e
and_true false b c e next = absurd (cc e)

and_false : (a b : Bool) → b ≡ false → (a && b) ≡ false
and_false true b e = e
and_false false b e = refl

first : {A : Type 0} (b : Bool) (x : A) → length (cond b (x ∷ []) []) ≡ 0 + cond b 1 0
first true x = refl
first false x = refl

counted : {A : Type 0} (b : Bool) (x : A) (more fewer : List A) (n : ℕ) → length more ≡ length fewer + n → length (cond b (x ∷ more) more) ≡ length (cond b (x ∷ fewer) fewer) + n
counted true x more fewer n e = omega arith
counted false x more fewer n e = e

counted_alike : {A B : Type 0} (b : Bool) (y : B) (x : A) (ys : List B) (xs : List A) → length ys ≡ length xs → length (cond b (y ∷ ys) ys) ≡ length (cond b (x ∷ xs) xs)
counted_alike true y x ys xs e = ap suc e
counted_alike false y x ys xs e = e

at_most : {A : Type 0} (b : Bool) (x : A) (xs : List A) (n : ℕ) → length xs ≤ n → length (cond b (x ∷ xs) xs) ≤ suc n
at_most true x xs n le = omega arith
at_most false x xs n le = omega arith

module _ {A : Type 0} (p : A → Bool) where
  more : (xs : List A) (n : ℕ) (x : A) → slice_get xs n ≡ Some x → list_any p (take n xs) ≡ false → p x ≡ false → list_any p (take (suc n) xs) ≡ false
  more [] n x is before here = absurd (cc is)
  more (y ∷ ys) zero x is before here = let same : y ≡ x = cc is in ap (λ (b : Bool). b || false) (ap p same ∙ here)
  more (y ∷ ys) (suc n) x is before here = or_false (p y) (list_any p (take n ys)) (list_any p (take (suc n) ys)) before (λ rest. more ys n x is rest here)

  -- no item up to n passes, and the next does not
  pub none_more : (xs : List A) (n : ℕ) (x : A) → slice_get xs n ≡ Some x → list_any p (take n xs) ≡ false → p x ≡ false → list_any p (take (n + 1) xs) ≡ false
  none_more xs n x is before here = subst (λ (k : ℕ). list_any p (take k xs) ≡ false) (sym (add-one n)) (more xs n x is before here)

  all_of : (xs : List A) (n : ℕ) → length xs ≤ n → take n xs ≡ xs
  all_of [] zero le = refl
  all_of [] (suc n) le = refl
  all_of (x ∷ xs) zero le = absurd (omega arith)
  all_of (x ∷ xs) (suc n) le = ap (λ (ys : List A). x ∷ ys) (all_of xs n (omega arith))

  pub none_at_all : (xs : List A) (n : ℕ) → length xs ≤ n → list_any p (take n xs) ≡ false → list_any p xs ≡ false
  none_at_all xs n le none = ap (list_any p) (sym (all_of xs n le)) ∙ none

  pub one_is_enough : (xs : List A) (n : ℕ) (x : A) → slice_get xs n ≡ Some x → p x ≡ true → list_any p xs ≡ true
  one_is_enough [] n x is here = absurd (cc is)
  one_is_enough (y ∷ ys) zero x is here = let same : y ≡ x = cc is in ap (λ (b : Bool). b || list_any p ys) (ap p same ∙ here)
  one_is_enough (y ∷ ys) (suc n) x is here = or_right (p y) (list_any p ys) (one_is_enough ys n x is here)

  all_next : (xs : List A) (n : ℕ) (x : A) → slice_get xs n ≡ Some x → list_all p (take n xs) ≡ true → p x ≡ true → list_all p (take (suc n) xs) ≡ true
  all_next [] n x is before here = absurd (cc is)
  all_next (y ∷ ys) zero x is before here = let same : y ≡ x = cc is in ap (λ (b : Bool). b && true) (ap p same ∙ here)
  all_next (y ∷ ys) (suc n) x is before here = and_true (p y) (list_all p (take n ys)) (list_all p (take (suc n) ys)) before (λ rest. all_next ys n x is rest here)

  pub all_more : (xs : List A) (n : ℕ) (x : A) → slice_get xs n ≡ Some x → list_all p (take n xs) ≡ true → p x ≡ true → list_all p (take (n + 1) xs) ≡ true
  all_more xs n x is before here = subst (λ (k : ℕ). list_all p (take k xs) ≡ true) (sym (add-one n)) (all_next xs n x is before here)

  pub all_together : (xs : List A) (n : ℕ) → length xs ≤ n → list_all p (take n xs) ≡ true → list_all p xs ≡ true
  all_together xs n le all = ap (list_all p) (sym (all_of xs n le)) ∙ all

  pub one_fails : (xs : List A) (n : ℕ) (x : A) → slice_get xs n ≡ Some x → p x ≡ false → list_all p xs ≡ false
  one_fails [] n x is here = absurd (cc is)
  one_fails (y ∷ ys) zero x is here = let same : y ≡ x = cc is in ap (λ (b : Bool). b && list_all p ys) (ap p same ∙ here)
  one_fails (y ∷ ys) (suc n) x is here = and_false (p y) (list_all p ys) (one_fails ys n x is here)

  count_next : (xs : List A) (n : ℕ) (x : A) → slice_get xs n ≡ Some x → length (filter p (take (suc n) xs)) ≡ length (filter p (take n xs)) + cond (p x) 1 0
  count_next [] n x is = absurd (cc is)
  count_next (y ∷ ys) zero x is = let same : y ≡ x = cc is in first (p y) y ∙ ap (λ (z : A). 0 + cond (p z) 1 0) same
  count_next (y ∷ ys) (suc n) x is = counted (p y) y (filter p (take (suc n) ys)) (filter p (take n ys)) (cond (p x) 1 0) (count_next ys n x is)

  pub count_more : (xs : List A) (n : ℕ) (x : A) → slice_get xs n ≡ Some x → p x ≡ true → length (filter p (take (n + 1) xs)) ≡ length (filter p (take n xs)) + 1
  count_more xs n x is here = subst (λ (k : ℕ). length (filter p (take k xs)) ≡ length (filter p (take n xs)) + 1) (sym (add-one n)) (count_next xs n x is ∙ ap (λ (b : Bool). length (filter p (take n xs)) + cond b 1 0) here)

  pub count_same : (xs : List A) (n : ℕ) (x : A) → slice_get xs n ≡ Some x → p x ≡ false → length (filter p (take (n + 1) xs)) ≡ length (filter p (take n xs))
  count_same xs n x is here = subst (λ (k : ℕ). length (filter p (take k xs)) ≡ length (filter p (take n xs))) (sym (add-one n)) (count_next xs n x is ∙ (ap (λ (b : Bool). length (filter p (take n xs)) + cond b 1 0) here ∙ omega arith))

  pub count_at_most : (xs : List A) (n : ℕ) → length (filter p (take n xs)) ≤ n
  count_at_most [] zero = omega arith
  count_at_most [] (suc n) = omega arith
  count_at_most (x ∷ xs) zero = omega arith
  count_at_most (x ∷ xs) (suc n) = at_most (p x) x (filter p (take n xs)) n (count_at_most xs n)

  pub count_in_all : (xs : List A) (n : ℕ) → length xs ≤ n → length (filter p (take n xs)) ≡ length (filter p xs)
  count_in_all xs n le = ap (λ (ys : List A). length (filter p ys)) (all_of xs n le)

module _ {A B : Type 0} (p : B → Bool) (f : A → B) where
  pub any_mapped : (xs : List A) → list_any p (map f xs) ≡ list_any (λ x. p (f x)) xs
  any_mapped [] = refl
  any_mapped (x ∷ xs) = ap (λ (b : Bool). p (f x) || b) (any_mapped xs)

  pub all_mapped : (xs : List A) → list_all p (map f xs) ≡ list_all (λ x. p (f x)) xs
  all_mapped [] = refl
  all_mapped (x ∷ xs) = ap (λ (b : Bool). p (f x) && b) (all_mapped xs)

  pub count_mapped : (xs : List A) → length (filter p (map f xs)) ≡ length (filter (λ x. p (f x)) xs)
  count_mapped [] = refl
  count_mapped (x ∷ xs) = counted_alike (p (f x)) (f x) x (filter p (map f xs)) (filter (λ (y : A). p (f y)) xs) (count_mapped xs)

module _ {A B : Type 0} (f : A → B) where
  map_next : (xs : List A) (n : ℕ) (x : A) → slice_get xs n ≡ Some x → map f (take (suc n) xs) ≡ map f (take n xs) ++ f x ∷ []
  map_next [] n x is = absurd (cc is)
  map_next (y ∷ ys) zero x is = let same : y ≡ x = cc is in ap (λ (z : A). f z ∷ []) same
  map_next (y ∷ ys) (suc n) x is = ap (λ (bs : List B). f y ∷ bs) (map_next ys n x is)

  pub map_step : (xs : List A) (n : ℕ) (x : A) → slice_get xs n ≡ Some x → map f (take (n + 1) xs) ≡ map f (take n xs) ++ f x ∷ []
  map_step xs n x is = ap (λ (k : ℕ). map f (take k xs)) (add-one n) ∙ map_next xs n x is
