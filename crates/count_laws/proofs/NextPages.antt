-- Behind the last key of a page stand the groups that the page left.
use Rattle.std.specs.Prelude.{◌≡◌, refl, ◌⊎◌, ℕ, zero, suc, Bool, true, false, cond, List, [], ◌∷◌, filter, take, drop, length, Option, Some, None}
use Rattle.std.specs.List.{last_or}
use Rattle.std.specs.Option.{option_map_or}
use Rattle.std.specs.declared.cmp.Ordering.{Ordering}
use Rattle.std.specs.declared.cmp.Ordering.TheVariants.{Less, Equal, Greater}
use Rattle.std.specs.Ordering.{is_gt, ordering_reverse}
use Rattle.std.specs.Cmp.{IsTotalOrder, tied_itself}
use Rattle.std.proofs.Common.{sym, ◌∙◌, ap, inl, inr, ⊎_elim}
use Rattle.std.proofs.lemmas.Bool.{cases_Bool, true≢false}
use Rattle.agg_model.specs.declared.aggregation.CompositeSource.{CompositeSource}
use Rattle.agg_model.specs.declared.key.Key.{Key}
use Rattle.agg_evaluation.specs.CompositeKeys.{is_composite_of}
use Rattle.agg_evaluation.specs.Orders.{composite_cmp}
use Rattle.list_laws.specs.Sorting.{ascending, sorted}
use Rattle.list_laws.proofs.Options.{none_some}
use Rattle.growth_laws.proofs.CompositeOrder.{beyond, exact_cmp, exact_cmp_exact, exact_cmp_total, same-order}
use Rattle.growth_laws.proofs.Ordered.{ascends-ascending, ascends-filter, has-ascending, has-filter}
use Rattle.growth_laws.proofs.PageKeys.{AreKeys, all-has}
use Rattle.growth_laws.proofs.Pages.{Ascends, Has}
use Rattle.count_laws.proofs.AtPaths.{some-same}
use Rattle.count_laws.proofs.FirstKeys.{sorted-is}

module _ {A : Type 0} (R : A → A → Ordering) (total : IsTotalOrder R) where
  -- whether an item comes after another
  abbrev after_item : A → A → Bool
  after_item y x = is_gt (R x y)

  less-after : (x y : A) → R x y ≡ Less → after_item x y ≡ true
  less-after x y e = ap is_gt (total.antisymm y x ∙ ap ordering_reverse e)

  less-not : (x y : A) → R x y ≡ Less → after_item y x ≡ false
  less-not x y e = ap is_gt e

  all-after : (d : A) (xs : List A) → ((y : A) → Has R total y xs → R d y ≡ Less) → filter (after_item d) xs ≡ xs
  all-after d [] h = refl
  all-after d (x ∷ xs) h = ap (λ c. cond c (x ∷ filter (after_item d) xs) (filter (after_item d) xs)) (less-after d x (h x (inl refl))) ∙ ap (λ ys. x ∷ ys) (all-after d xs (λ y i. h y (inr i)))

  -- the last of some first items is the one before them or among the list
  last-is : (n : ℕ) (d : A) (xs : List A) (l : A) → last_or (Some d) (take n xs) ≡ Some l → (l ≡ d) ⊎ Has R total l xs
  last-is zero d xs l e = inl (sym (some-same e))
  last-is (suc n) d [] l e = inl (sym (some-same e))
  last-is (suc n) d (x ∷ xs) l e = inr (last-is n x xs l e)

  behind-from : (n : ℕ) (d : A) (xs : List A) (l : A) → Ascends R total (d ∷ xs) → last_or (Some d) (take n xs) ≡ Some l → filter (after_item l) xs ≡ drop n xs
  behind-from zero d xs l up e = ap (λ j. filter (after_item j) xs) (sym (some-same e)) ∙ all-after d xs up.0
  behind-from (suc n) d [] l up e = refl
  behind-from (suc n) d (x ∷ xs) l up e =
      let not_after : after_item l x ≡ false = ⊎_elim (λ (f : l ≡ x). ap (λ j. after_item j x) f ∙ ap is_gt (tied_itself total x)) (λ (i : Has R total l xs). less-not x l (up.1.0 l i)) (last-is n x xs l e) in
      ap (λ c. cond c (x ∷ filter (after_item l) xs) (filter (after_item l) xs)) not_after ∙ behind-from n x xs l up.1 e

  -- behind the last of the first n items stand the others
  pub behind : (n : ℕ) (xs : List A) (l : A) → Ascends R total xs → last_or None (take n xs) ≡ Some l → filter (after_item l) xs ≡ drop n xs
  behind zero xs l up e = absurd (none_some l e)
  behind (suc n) [] l up e = absurd (none_some l e)
  behind (suc n) (x ∷ xs) l up e =
      let not_after : after_item l x ≡ false = ⊎_elim (λ (f : l ≡ x). ap (λ j. after_item j x) f ∙ ap is_gt (tied_itself total x)) (λ (i : Has R total l xs). less-not x l (up.0 l i)) (last-is n x xs l e) in
      ap (λ c. cond c (x ∷ filter (after_item l) xs) (filter (after_item l) xs)) not_after ∙ behind-from n x xs l up e

  last-among : (n : ℕ) (xs : List A) (l : A) → last_or None (take n xs) ≡ Some l → Has R total l xs
  last-among zero xs l e = absurd (none_some l e)
  last-among (suc n) [] l e = absurd (none_some l e)
  last-among (suc n) (x ∷ xs) l e = last-is n x xs l e

  -- a second test that says as much
  filter-twice : (p q : A → Bool) (xs : List A) → ((x : A) → Has R total x xs → q x ≡ true → p x ≡ true) → filter q (filter p xs) ≡ filter q xs
  filter-twice p q [] h = refl
  filter-twice p q (x ∷ xs) h =
      elim (p x) as (λ b. p x ≡ b → filter q (cond b (x ∷ filter p xs) (filter p xs)) ≡ cond (q x) (x ∷ filter q xs) (filter q xs)) [
        | true ↦ λ e. ap (λ ys. cond (q x) (x ∷ ys) ys) (filter-twice p q xs (λ y i. h y (inr i)))
        | false ↦ λ e. filter-twice p q xs (λ y i. h y (inr i))
            ∙ ap (λ c. cond c (x ∷ filter q xs) (filter q xs)) (sym (⊎_elim (λ (f : q x ≡ true). absurd (true≢false (sym (h x (inl refl) f) ∙ e))) (λ (f : q x ≡ false). f) (cases_Bool (q x))))
      ] refl

  filter-alike : (p q : A → Bool) (xs : List A) → ((x : A) → Has R total x xs → p x ≡ q x) → filter p xs ≡ filter q xs
  filter-alike p q [] h = refl
  filter-alike p q (x ∷ xs) h = λ i. cond (h x (inl refl) i) (x ∷ filter-alike p q xs (λ y j. h y (inr j)) i) (filter-alike p q xs (λ y j. h y (inr j)) i)

greater-is : (o : Ordering) → is_gt o ≡ true → o ≡ Greater
greater-is Less e = absurd (true≢false (sym e))
greater-is Equal e = absurd (true≢false (sym e))
greater-is Greater e = refl

module _ (sources : List CompositeSource) (size : ℕ) (after : Option Key) (composite_after : option_map_or (is_composite_of (length sources)) after true ≡ true) where
  abbrev Composite : Key → Type 0
  Composite k = is_composite_of (length sources) k ≡ true

  -- what comes after a key that comes after `after` does so too
  further : (x l : Key) → Composite x → Composite l → is_gt (composite_cmp sources x l) ≡ true → beyond sources after l ≡ true → beyond sources after x ≡ true
  further x l cx cl gt h = by after composite_after h
    where
      by : (o : Option Key) → option_map_or (is_composite_of (length sources)) o true ≡ true → beyond sources o l ≡ true → beyond sources o x ≡ true
      by None c h = refl
      by (Some a) c h =
          let R = exact_cmp sources in
          let order = exact_cmp_total sources in
          let back = λ (j k : Key) (e : R j k ≡ Greater). (order.antisymm k j ∙ ap ordering_reverse e) in
          let lx : R l x ≡ Less = back x l (same-order sources x l cx cl ∙ greater-is _ gt) in
          let al : R a l ≡ Less = back l a (same-order sources l a cl c ∙ greater-is _ h) in
          let ax : R a x ≡ Less = order.trans a l x al lx in
          ap is_gt (sym (same-order sources x a cx c) ∙ order.antisymm x a ∙ ap ordering_reverse ax)

  -- the keys behind the last of a page are those that it left
  pub keys-behind : (every : List Key) (l : Key) → AreKeys sources size after every → last_or None (take size (filter (beyond sources after) (sorted (composite_cmp sources) every))) ≡ Some l
      → filter (beyond sources (Some l)) (sorted (composite_cmp sources) every) ≡ drop size (filter (beyond sources after) (sorted (composite_cmp sources) every))
  keys-behind every l are last =
      let R = exact_cmp sources in
      let order = exact_cmp_total sources in
      let exact = exact_cmp_exact sources in
      let L = ascending R every in
      let G = filter (beyond sources after) L in
      let same = sorted-is sources size after every are in
      let last_l : last_or None (take size G) ≡ Some l = ap (λ js. last_or None (take size (filter (beyond sources after) js))) (sym same) ∙ last in
      let l_in = has-filter R order exact (beyond sources after) l L (last-among R order size G l last_l) in
      let composite = λ (x : Key) (i : Has R order x L). all-has R order (is_composite_of (length sources)) every are.composite x (has-ascending R order exact x every i) in
      let alike = λ (x : Key) (i : Has R order x L). ap is_gt (same-order sources x l (composite x i) (composite l l_in.0)) in
      ap (filter (beyond sources (Some l))) same
      ∙ sym (filter-twice R order (beyond sources after) (beyond sources (Some l)) L (λ x i e. further x l (composite x i) (composite l l_in.0) e l_in.1))
      ∙ sym (filter-alike R order (after_item R order l) (beyond sources (Some l)) G (λ x i. alike x (has-filter R order exact (beyond sources after) x L i).0))
      ∙ behind R order size G l (ascends-filter R order exact (beyond sources after) L (ascends-ascending R order exact every)) last_l
      ∙ ap (λ js. drop size (filter (beyond sources after) js)) (sym same)
