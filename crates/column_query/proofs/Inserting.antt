-- Tests of a set to which a key is added, and of a list that grows.
use Rattle.std.proofs.Common.{◌≡◌, refl, ℕ, ◌+◌, ◌<◌, zero, suc, Bool, true, false, List, [], ◌∷◌, ◌++◌, length, get_or, take, sym, ◌∙◌, ap, arith, add-one}
use Rattle.std.specs.Prelude.{◌||◌, ◌&&◌}
use Rattle.std.specs.List.{list_any, list_all}
use Rattle.std.specs.declared.cmp.Ordering.{Ordering}
use Rattle.std.specs.declared.cmp.Ordering.TheVariants.{Less, Equal, Greater}
use Rattle.std.specs.Ordering.{match_ordering}
use Rattle.std.specs.BTreeSet.{insert_key}
use Rattle.list_laws.proofs.Booleans.{or_comm, or_swap, or_assoc, and_true, and_assoc}

or_again : (a b c : Bool) → a ≡ b → (b || c) ≡ (a || (b || c))
or_again true true c e = refl
or_again true false c e = absurd (cc e)
or_again false true c e = absurd (cc e)
or_again false false c e = refl

module _ {K : Type 0} (cmp : K → K → Ordering) (p : K → Bool) (alike : (x y : K) → cmp x y ≡ Equal → p x ≡ p y) where
  by_order : (o : Ordering) (k x : K) (xs rest : List K) → cmp k x ≡ o → list_any p rest ≡ (p k || list_any p xs) → list_any p (match_ordering o (k ∷ x ∷ xs) (x ∷ xs) (x ∷ rest)) ≡ (p k || list_any p (x ∷ xs))
  by_order Less k x xs rest e is = refl
  by_order Equal k x xs rest e is = or_again (p k) (p x) (list_any p xs) (alike k x e)
  by_order Greater k x xs rest e is = ap (λ (b : Bool). p x || b) is ∙ or_swap (p x) (p k) (list_any p xs)

  -- what some key of the set passes, with one key more
  pub any-insert_key : (ks : List K) (k : K) → list_any p (insert_key cmp ks k) ≡ (p k || list_any p ks)
  any-insert_key [] k = refl
  any-insert_key (x ∷ xs) k = by_order (cmp k x) k x xs (insert_key cmp xs k) refl (any-insert_key xs k)

module _ {A : Type 0} (p : A → Bool) where
  any_next : (xs : List A) (n : ℕ) (x : A) → n < length xs → x ≡ get_or xs n x → list_any p (take (suc n) xs) ≡ (list_any p (take n xs) || p x)
  any_next [] n x below is = absurd (omega arith)
  any_next (y ∷ ys) zero x below is = or_comm (p y) false ∙ ap p (sym is)
  any_next (y ∷ ys) (suc n) x below is = ap (λ (b : Bool). p y || b) (any_next ys n x (omega arith) is) ∙ or_assoc (p y) (list_any p (take n ys)) (p x)

  pub any_step : (xs : List A) (n : ℕ) (x : A) → n < length xs → x ≡ get_or xs n x → list_any p (take (n + 1) xs) ≡ (list_any p (take n xs) || p x)
  any_step xs n x below is = ap (λ (k : ℕ). list_any p (take k xs)) (add-one n) ∙ any_next xs n x below is

  all_next : (xs : List A) (n : ℕ) (x : A) → n < length xs → x ≡ get_or xs n x → list_all p (take (suc n) xs) ≡ (list_all p (take n xs) && p x)
  all_next [] n x below is = absurd (omega arith)
  all_next (y ∷ ys) zero x below is = and_true (p y) ∙ ap p (sym is)
  all_next (y ∷ ys) (suc n) x below is = ap (λ (b : Bool). p y && b) (all_next ys n x (omega arith) is) ∙ and_assoc (p y) (list_all p (take n ys)) (p x)

  pub all_step : (xs : List A) (n : ℕ) (x : A) → n < length xs → x ≡ get_or xs n x → list_all p (take (n + 1) xs) ≡ (list_all p (take n xs) && p x)
  all_step xs n x below is = ap (λ (k : ℕ). list_all p (take k xs)) (add-one n) ∙ all_next xs n x below is

  pub all-push : (xs : List A) (x : A) → list_all p (xs ++ x ∷ []) ≡ (list_all p xs && p x)
  all-push [] x = and_true (p x)
  all-push (y ∷ ys) x = ap (λ (b : Bool). p y && b) (all-push ys x) ∙ and_assoc (p y) (list_all p ys) (p x)
