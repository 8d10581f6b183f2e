-- One more key in a page: where it stands, and what the page becomes.
use Rattle.std.proofs.Common.{◌≡◌, refl, ℕ, zero, suc, ◌+◌, ◌-◌, ◌<◌, Bool, true, false, cond, List, [], ◌∷◌, ◌++◌, length, get_or, slice_set, take, drop, map, Some, None, Less, Equal, Greater, sym, ◌∙◌, ap, subst, arith}
use Rattle.std.specs.Prelude.{T, ◌||◌}
use Rattle.std.specs.List.{list_all, last_or, slice_get, AllByRecursion}
use Rattle.std.specs.Cmp.{tied_itself}
use Rattle.std.specs.Ordering.{is_lt, is_le, ordering_reverse}
use Rattle.std.specs.declared.cmp.Ordering.{Ordering}
use Rattle.std.proofs.lemmas.Bool.{false≢true}
use Rattle.agg_model.specs.declared.aggregation.CompositeSource.{CompositeSource}
use Rattle.agg_model.specs.declared.key.Key.{Key}
use Rattle.agg_model.specs.declared.partial.Bucket.{Bucket}
use Rattle.agg_evaluation.specs.CompositeKeys.{is_composite_of}
use Rattle.agg_evaluation.specs.KeyOrder.{has_key, key_eq}
use Rattle.agg_evaluation.specs.Orders.{bucket_key}
use Rattle.agg_evaluation.proofs.KeyLists.{key_eq-exact, key_eq-self}
use Rattle.bucket_order.specs.Composites.{key_parts}
use Rattle.bucket_order.proofs.CompositeLaws.{any_parts_total, same_composites}
use Rattle.growth_laws.proofs.CompositeOrder.{exact_cmp_exact, same-order}
use Rattle.list_laws.specs.Sorting.{insert_sorted}
use Rattle.list_laws.proofs.Booleans.{and_left, and_right, holds}
use Rattle.composite_agg.specs.FirstPages.{AreInOrder, counted, page_cmp}
use Rattle.composite_agg.proofs.PlaceOrder.{at}

module _ (sources : List CompositeSource) where
  abbrev Before : Key → Key → Bool
  Before j k = is_lt (page_cmp sources j k)

  by : Bucket → Bucket → Ordering
  by a b = page_cmp sources (bucket_key a) (bucket_key b)

  pub back : (j k : Key) → page_cmp sources j k ≡ ordering_reverse (page_cmp sources k j)
  back j k = (any_parts_total sources).antisymm (key_parts j) (key_parts k)

  pub not_itself : (k : Key) → T (is_lt (page_cmp sources k k)) → ⊥
  not_itself k h = subst (λ o. T (is_lt o)) (tied_itself (any_parts_total sources) (key_parts k)) h

  -- keys of composites that tie are one
  pub tied : (j k : Key) → is_composite_of (length sources) j ≡ true → is_composite_of (length sources) k ≡ true → page_cmp sources j k ≡ Equal → j ≡ k
  tied j k e f tie = exact_cmp_exact sources j k (same-order sources j k e f ∙ sym (same_composites sources j k e f) ∙ tie)

  insert_after : (o p : Ordering) → o ≡ ordering_reverse p → is_lt p ≡ false → is_le o ≡ true
  insert_after o Less e f = absurd (false≢true (sym f))
  insert_after o Equal e f = ap is_le e
  insert_after o Greater e f = ap is_le e

  insert_before : (o p : Ordering) → o ≡ ordering_reverse p → T (is_lt p) → is_le o ≡ false
  insert_before o Less e f = ap is_le e
  insert_before o Equal e f = absurd f
  insert_before o Greater e f = absurd f

  -- a bucket in its place
  pub insert-at : (b : Bucket) (bs : List Bucket) (i : ℕ) → T (list_all (λ c. is_lt (page_cmp sources (bucket_key c) (bucket_key b))) (take i bs)) → AllByRecursion (λ c. is_lt (page_cmp sources (bucket_key c) (bucket_key b)) ≡ false) (drop i bs)
      → insert_sorted (λ a c. page_cmp sources (bucket_key a) (bucket_key c)) b bs ≡ take i bs ++ b ∷ drop i bs
  insert-at b [] zero front behind = refl
  insert-at b [] (suc i) front behind = refl
  insert-at b (c ∷ cs) zero front behind =
      ap (λ t. cond t (b ∷ c ∷ cs) (c ∷ insert_sorted (λ a c. page_cmp sources (bucket_key a) (bucket_key c)) b cs)) (insert_after _ _ (back (bucket_key b) (bucket_key c)) behind.0)
  insert-at b (c ∷ cs) (suc i) front behind =
      ap (λ t. cond t (b ∷ c ∷ cs) (c ∷ insert_sorted (λ a c. page_cmp sources (bucket_key a) (bucket_key c)) b cs)) (insert_before _ _ (back (bucket_key b) (bucket_key c)) (and_left _ _ front))
      ∙ ap (λ xs. c ∷ xs) (insert-at b cs i (and_right _ _ front) behind)

  pub differs : (j k : Key) → T (is_lt (page_cmp sources j k)) → key_eq k j ≡ false
  differs j k less = elim (key_eq k j) as (λ t. key_eq k j ≡ t → t ≡ false) [
    | true ↦ λ e. let same = key_eq-exact k j (holds _ e) in absurd (not_itself j (subst (λ q. T (is_lt (page_cmp sources j q))) same less))
    | false ↦ λ e. refl
  ] refl

  pub differs_back : (j k : Key) → T (is_lt (page_cmp sources k j)) → key_eq k j ≡ false
  differs_back j k less = elim (key_eq k j) as (λ t. key_eq k j ≡ t → t ≡ false) [
    | true ↦ λ e. let same = key_eq-exact k j (holds _ e) in absurd (not_itself j (subst (λ q. T (is_lt (page_cmp sources q j))) same less))
    | false ↦ λ e. refl
  ] refl

  none_counted : (k : Key) (bs : List Bucket) → T (list_all (λ b. is_lt (page_cmp sources k (bucket_key b))) bs) → map (counted k) bs ≡ bs
  none_counted k [] all = refl
  none_counted k (b ∷ bs) all =
      ap (λ t. cond t (record b { count = b.count + 1 }) b ∷ map (counted k) bs) (differs_back (bucket_key b) k (and_left _ _ all)) ∙ ap (λ xs. b ∷ xs) (none_counted k bs (and_right _ _ all))

  -- the bucket of the key, counted
  pub counted-at : (k : Key) (bs : List Bucket) (i : ℕ) (d : Bucket) → AreInOrder sources bs → i < length bs → bucket_key (get_or bs i d) ≡ k
      → map (counted k) bs ≡ slice_set bs i (record (get_or bs i d) { count = (get_or bs i d).count + 1 })
  counted-at k [] i d order below is = absurd (omega (arith, below))
  counted-at k (b ∷ bs) zero d order below is =
      ap (λ t. cond t (record b { count = b.count + 1 }) b ∷ map (counted k) bs) (ap (key_eq k) is ∙ key_eq-self k)
      ∙ ap (λ xs. (record b { count = b.count + 1 }) ∷ xs) (none_counted k bs (subst (λ j. T (list_all (λ c. is_lt (page_cmp sources j (bucket_key c))) bs)) is order.0))
  counted-at k (b ∷ bs) (suc i) d order below is =
      ap (λ t. cond t (record b { count = b.count + 1 }) b ∷ map (counted k) bs) (differs (bucket_key b) k (subst (λ j. T (is_lt (page_cmp sources (bucket_key b) j))) is (at (λ c. is_lt (page_cmp sources (bucket_key b) (bucket_key c))) bs i d (omega (arith, below)) order.0)))
      ∙ ap (λ xs. b ∷ xs) (counted-at k bs i d order.1 (omega (arith, below)) is)

  -- the key is there
  pub held-at : (k : Key) (bs : List Bucket) (i : ℕ) (d : Bucket) → i < length bs → bucket_key (get_or bs i d) ≡ k → has_key k (map bucket_key bs) ≡ true
  held-at k [] i d below is = absurd (omega (arith, below))
  held-at k (b ∷ bs) zero d below is = ap (λ t. t || has_key k (map bucket_key bs)) (ap (key_eq k) is ∙ key_eq-self k)
  held-at k (b ∷ bs) (suc i) d below is = ap (λ t. key_eq k (bucket_key b) || t) (held-at k bs i d (omega (arith, below)) is) ∙ or_yes (key_eq k (bucket_key b))
    where
      or_yes : (t : Bool) → (t || true) ≡ true
      or_yes true = refl
      or_yes false = refl

  pub greater_back : (j k : Key) → is_lt (page_cmp sources j k) ≡ false → (page_cmp sources j k ≡ Equal → ⊥) → T (is_lt (page_cmp sources k j))
  greater_back j k e f = subst (λ o. T (is_lt o)) (sym (back k j)) (by_order (page_cmp sources j k) e f)
    where
      by_order : (o : Ordering) → is_lt o ≡ false → (o ≡ Equal → ⊥) → T (is_lt (ordering_reverse o))
      by_order Less e f = absurd (false≢true (sym e))
      by_order Equal e f = absurd (f refl)
      by_order Greater e f = tt

-- the last item
last-from : {A : Type 0} (x : A) (xs : List A) → last_or (Some x) xs ≡ slice_get (x ∷ xs) (length xs)
last-from x [] = refl
last-from x (y ∷ ys) = last-from y ys

pub last-get : {A : Type 0} (xs : List A) → 0 < length xs → last_or None xs ≡ slice_get xs (length xs - 1)
last-get [] some = absurd (omega (arith, some))
last-get (x ∷ xs) some = let e : length xs ≡ length (x ∷ xs) - 1 = omega arith in last-from x xs ∙ ap (slice_get (x ∷ xs)) e

pub last-none : {A : Type 0} (xs : List A) → slice_get xs (length xs - 1) ≡ None → xs ≡ []
last-none [] e = refl
last-none (x ∷ xs) e = let n : length xs ≡ length (x ∷ xs) - 1 = omega arith in absurd (there x xs (ap (slice_get (x ∷ xs)) n ∙ e))
  where
    there : {A : Type 0} (x : A) (xs : List A) → slice_get (x ∷ xs) (length xs) ≡ None → ⊥
    there x [] e = cc e
    there x (y ∷ ys) e = there y ys e
