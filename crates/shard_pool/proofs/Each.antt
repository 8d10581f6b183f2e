-- What holds of each item of a list, of two lists in a row, of images, and of the items that pass a test.
use Rattle.std.specs.Prelude.{◌≡◌, Bool, true, false, cond, Contains, List, [], ◌∷◌, ◌++◌, filter, map}
use Rattle.std.specs.List.{AllByRecursion}
use Rattle.std.proofs.Common.{sym, ◌∙◌, subst, ⊎_elim}
use Rattle.std.proofs.lemmas.Bool.{cases_Bool, false≢true}
use Rattle.std.proofs.lemmas.List.Elements.{All-from_recursion}

module _ {A : Type 0} (P : A → Type 0) where
  pub each-append : (xs ys : List A) → AllByRecursion P xs → AllByRecursion P ys → AllByRecursion P (xs ++ ys)
  each-append [] ys h g = g
  each-append (x ∷ xs) ys h g = (h.0, each-append xs ys h.1 g)

  -- of images, so of each
  pub each-image : {B : Type 0} (f : B → A) (xs : List B) → AllByRecursion P (map f xs) → AllByRecursion (λ x. P (f x)) xs
  each-image f [] h = tt
  each-image f (x ∷ xs) h = (h.0, each-image f xs h.1)

  -- of those that pass a test, so of each that does
  pub each-passing : (t : A → Bool) (xs : List A) → AllByRecursion P (filter t xs) → AllByRecursion (λ x. t x ≡ true → P x) xs
  each-passing t [] h = tt
  each-passing t (x ∷ xs) h = ⊎_elim
      (λ (e : t x ≡ true). let g : AllByRecursion P (x ∷ filter t xs) = subst (λ b. AllByRecursion P (cond b (x ∷ filter t xs) (filter t xs))) e h in ((λ _. g.0), each-passing t xs g.1))
      (λ (e : t x ≡ false). let g : AllByRecursion P (filter t xs) = subst (λ b. AllByRecursion P (cond b (x ∷ filter t xs) (filter t xs))) e h in ((λ f. absurd (false≢true (sym e ∙ f))), each-passing t xs g))
      (cases_Bool (t x))

  pub each-passed : (t : A → Bool) (xs : List A) → AllByRecursion (λ x. t x ≡ true → P x) xs → AllByRecursion P (filter t xs)
  each-passed t [] h = tt
  each-passed t (x ∷ xs) h = ⊎_elim
      (λ (e : t x ≡ true). subst (λ b. AllByRecursion P (cond b (x ∷ filter t xs) (filter t xs))) (sym e) (h.0 e, each-passed t xs h.1))
      (λ (e : t x ≡ false). subst (λ b. AllByRecursion P (cond b (x ∷ filter t xs) (filter t xs))) (sym e) (each-passed t xs h.1))
      (cases_Bool (t x))

  -- of one that is there
  pub contained : (xs : List A) (x : A) → AllByRecursion P xs → Contains xs x → P x
  contained xs x h c = subst P c.2 (All-from_recursion P xs h c.0 x c.1)

  module _ (Q : A → Type 0) where
    -- a fact by another one, or by two
    pub each-step : ((x : A) → P x → Q x) → (xs : List A) → AllByRecursion P xs → AllByRecursion Q xs
    each-step step [] h = tt
    each-step step (x ∷ xs) h = (step x h.0, each-step step xs h.1)

    pub each-both : (T : A → Type 0) → ((x : A) → P x → Q x → T x) → (xs : List A) → AllByRecursion P xs → AllByRecursion Q xs → AllByRecursion T xs
    each-both T step [] h g = tt
    each-both T step (x ∷ xs) h g = (step x h.0 g.0, each-both T step xs h.1 g.1)
