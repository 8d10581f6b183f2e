-- The page of a composite aggregation as keys come: what is outside stays outside, and one more key.
use Rattle.std.specs.Prelude.{◌≡◌, ◌⊎◌, ℕ, Bool, true, false, ◌||◌, T, List, [], ◌∷◌, ◌++◌, flat_map, length, Option}
use Rattle.std.specs.List.{list_all}
use Rattle.std.specs.declared.cmp.Ordering.{Ordering}
use Rattle.std.specs.declared.cmp.Ordering.TheVariants.{Equal}
use Rattle.std.specs.Cmp.{IsTotalOrder}
use Rattle.std.proofs.Common.{sym, ◌∙◌, ap, subst, inl, inr, ⊎_elim}
use Rattle.std.proofs.lemmas.Bool.{cases_Bool}
use Rattle.agg_model.specs.declared.aggregation.CompositeSource.{CompositeSource}
use Rattle.agg_model.specs.declared.aggregation.Kind.TheVariants as kind
use Rattle.agg_model.specs.declared.key.Key.{Key}
use Rattle.agg_evaluation.specs.Groups.{all_keys}
use Rattle.agg_evaluation.specs.KeyOrder.{has_key, key_cmp, key_eq}
use Rattle.agg_evaluation.specs.Keys.{distinct_keys, keys}
use Rattle.agg_evaluation.specs.Rows.{PlacedRow}
use Rattle.agg_evaluation.specs.Shard.{page}
use Rattle.list_laws.specs.Sorting.{insert_once}
use Rattle.agg_evaluation.specs.Trees.{is_ascending}
use Rattle.agg_evaluation.proofs.KeyCompare.{key_cmp_total}
use Rattle.agg_evaluation.proofs.KeyExact.{exact_keys}
use Rattle.agg_evaluation.proofs.KeyLists.{key_eq-exact, key_eq-self, below-absent, ascending-distinct_keys, ascending-insert_once, has_key-distinct_keys}
use Rattle.list_laws.proofs.Booleans.{and_left, and_right, both, holds, true_is}
use Rattle.list_laws.proofs.Lists.{flat_map-append}
use Rattle.agg_evaluation.proofs.UnionLaws.{has_key-append}
use Rattle.agg_evaluation.specs.CompositeKeys.{is_composite_of}
use Rattle.growth_laws.proofs.Combinations.{composite-parts}
use Rattle.growth_laws.proofs.CompositeOrder.{beyond, exact_cmp, exact_cmp_exact, exact_cmp_total, page-front}
use Rattle.growth_laws.proofs.Ordered.{Distinct, ascends-front, distinct-up, front, front-insert, front-more, has-front, has-insert, insert-has, sorted-distinct}
use Rattle.growth_laws.proofs.Pages.{Has}
use Rattle.std.proofs.Math.Bool.{or-true}

-- what stands in a list does not depend on an order
has-other : {A : Type 0} (R S : A → A → Ordering) (t : IsTotalOrder R) (u : IsTotalOrder S) (q : A) (xs : List A) → Has R t q xs → Has S u q xs
has-other R S t u q [] h = h
has-other R S t u q (x ∷ xs) h = ⊎_elim (λ (e : q ≡ x). inl e) (λ (i : Has R t q xs). inr (has-other R S t u q xs i)) h

module _ (R : Key → Key → Ordering) (t : IsTotalOrder R) (exact : (j k : Key) → R j k ≡ Equal → j ≡ k) where
  -- a key that the test finds stands in the list
  pub found-has : (q : Key) (ks : List Key) → has_key q ks ≡ true → Has R t q ks
  found-has q [] e = absurd (subst T (sym e) tt)
  found-has q (k ∷ ks) e =
      ⊎_elim (λ (f : key_eq q k ≡ true). inl (key_eq-exact q k (holds _ f)))
      (λ (f : key_eq q k ≡ false). inr (found-has q ks (sym (ap (λ b. b || has_key q ks) f) ∙ e))) (cases_Bool (key_eq q k))

  -- and the other way round
  pub has-found : (q : Key) (ks : List Key) → Has R t q ks → has_key q ks ≡ true
  has-found q [] h = absurd h
  has-found q (k ∷ ks) h =
      ⊎_elim (λ (e : q ≡ k). ap (λ b. b || has_key q ks) (ap (key_eq q) (sym e) ∙ key_eq-self q))
      (λ (i : Has R t q ks). ap (λ b. key_eq q k || b) (has-found q ks i) ∙ or-true (key_eq q k)) h

  -- in an ascending list no key stands twice
  pub distinct-ascending : (ks : List Key) → T (is_ascending ks) → Distinct R t exact ks
  distinct-ascending [] up = tt
  distinct-ascending (k ∷ ks) up =
      (λ h. subst T (sym (has-found k ks h) ∙ below-absent k ks (and_left _ _ up)) tt, distinct-ascending ks (and_right _ _ up))

-- the same for another order
distinct-other : {A : Type 0} (R S : A → A → Ordering) (t : IsTotalOrder R) (u : IsTotalOrder S) (e : (x y : A) → R x y ≡ Equal → x ≡ y) (f : (x y : A) → S x y ≡ Equal → x ≡ y) (xs : List A) → Distinct R t e xs → Distinct S u f xs
distinct-other R S t u e f [] d = tt
distinct-other R S t u e f (x ∷ xs) d = (λ h. d.0 (has-other S R u t x xs h), distinct-other R S t u e f xs d.1)

-- a test that holds of all keys
pub all-has : (R : Key → Key → Ordering) (t : IsTotalOrder R) (p : Key → Bool) (ks : List Key) → T (list_all p ks) → (q : Key) → Has R t q ks → p q ≡ true
all-has R t p [] h q i = absurd i
all-has R t p (k ∷ ks) h q i = ⊎_elim (λ (e : q ≡ k). ap p e ∙ true_is _ (and_left _ _ h)) (λ (j : Has R t q ks). all-has R t p ks (and_right _ _ h) q j) i

-- a test that holds of each key that is found
has-all : (p : Key → Bool) (ks : List Key) → ((q : Key) → has_key q ks ≡ true → p q ≡ true) → T (list_all p ks)
has-all p [] h = tt
has-all p (k ∷ ks) h =
    both _ _ (holds _ (h k (ap (λ b. b || has_key k ks) (key_eq-self k)))) (has-all p ks (λ q e. h q (ap (λ b. key_eq q k || b) e ∙ or-true (key_eq q k))))

module _ (sources : List CompositeSource) (size : ℕ) (after : Option Key) where
  -- ascending keys with a part for each source
  pub record AreKeys (ks : List Key) : Type 0 where
    pub up : T (is_ascending ks)
    pub composite : T (list_all (is_composite_of (length sources)) ks)

  -- the order of the sources, made exact
  abbrev Before : Key → Key → Ordering
  Before = exact_cmp sources

  -- the key stands in the list
  abbrev In : Key → List Key → Type 0
  In = Has (exact_cmp sources) (exact_cmp_total sources)

  -- the first keys in that order
  abbrev first : List Key → List Key
  first = front (exact_cmp sources) (exact_cmp_total sources) (exact_cmp_exact sources) (beyond sources after) size

  -- the page is the first keys, ascending
  page-is : (ks : List Key) → AreKeys ks → page sources size after ks ≡ distinct_keys (first ks)
  page-is ks are =
      page-front sources size after ks (all-has Before (exact_cmp_total sources) (is_composite_of (length sources)) ks are.composite) (distinct-ascending Before (exact_cmp_total sources) (exact_cmp_exact sources) ks are.up)
      ∙ sorted-distinct key_cmp key_cmp_total exact_keys (first ks)
      (distinct-other Before key_cmp (exact_cmp_total sources) key_cmp_total (exact_cmp_exact sources) exact_keys (first ks)
      (distinct-up Before (exact_cmp_total sources) (exact_cmp_exact sources) (first ks) (ascends-front Before (exact_cmp_total sources) (exact_cmp_exact sources) (beyond sources after) size ks)))

  -- what stands in a page
  in-page : (q : Key) (ks : List Key) → AreKeys ks → has_key q (page sources size after ks) ≡ true → In q (first ks)
  in-page q ks are e =
      found-has Before (exact_cmp_total sources) (exact_cmp_exact sources) q (first ks) (sym (has_key-distinct_keys q (first ks)) ∙ sym (ap (has_key q) (page-is ks are)) ∙ e)

  -- and the other way round
  page-in : (q : Key) (ks : List Key) → AreKeys ks → In q (first ks) → has_key q (page sources size after ks) ≡ true
  page-in q ks are h =
      ap (has_key q) (page-is ks are) ∙ has_key-distinct_keys q (first ks) ∙ has-found Before (exact_cmp_total sources) (exact_cmp_exact sources) q (first ks) h

  -- a page has some of the keys
  pub page-among : (q : Key) (ks : List Key) → AreKeys ks → has_key q (page sources size after ks) ≡ true → has_key q ks ≡ true
  page-among q ks are e =
      has-found Before (exact_cmp_total sources) (exact_cmp_exact sources) q ks (has-front Before (exact_cmp_total sources) (exact_cmp_exact sources) (beyond sources after) size q ks (in-page q ks are e)).0

  -- a page is ascending keys with a part for each source
  pub page-keys : (ks : List Key) → AreKeys ks → AreKeys (page sources size after ks)
  page-keys ks are = record {
    up = subst (λ js. T (is_ascending js)) (sym (page-is ks are)) (ascending-distinct_keys (first ks));
    composite = has-all (is_composite_of (length sources)) (page sources size after ks) (λ q e.
        all-has Before (exact_cmp_total sources) (is_composite_of (length sources)) ks are.composite q (has-front Before (exact_cmp_total sources) (exact_cmp_exact sources) (beyond sources after) size q ks (in-page q ks are e)).0);
  }

  -- one more key
  in-insert : (q k : Key) (ks : List Key) → In q (insert_once key_cmp k ks) → (q ≡ k) ⊎ In q ks
  in-insert q k ks h =
      ⊎_elim (λ (e : q ≡ k). inl e) (λ (i : Has key_cmp key_cmp_total q ks). inr (has-other key_cmp Before key_cmp_total (exact_cmp_total sources) q ks i))
      (has-insert key_cmp key_cmp_total exact_keys q k ks (has-other Before key_cmp (exact_cmp_total sources) key_cmp_total q (insert_once key_cmp k ks) h))

  -- and the other way round
  insert-in : (q k : Key) (ks : List Key) → (q ≡ k) ⊎ In q ks → In q (insert_once key_cmp k ks)
  insert-in q k ks h =
      has-other key_cmp Before key_cmp_total (exact_cmp_total sources) q (insert_once key_cmp k ks) (insert-has key_cmp key_cmp_total exact_keys q k ks
      (⊎_elim (λ (e : q ≡ k). inl e) (λ (i : In q ks). inr (has-other Before key_cmp (exact_cmp_total sources) key_cmp_total q ks i)) h))

  -- with one more key they still are
  pub insert-keys : (k : Key) (ks : List Key) → AreKeys ks → T (is_composite_of (length sources) k) → AreKeys (insert_once key_cmp k ks)
  insert-keys k ks are composite_k = record {
    up = ascending-insert_once k ks are.up;
    composite = has-all (is_composite_of (length sources)) (insert_once key_cmp k ks) (λ q e.
        ⊎_elim (λ (f : q ≡ k). ap (is_composite_of (length sources)) f ∙ true_is _ composite_k) (λ (i : In q ks). all-has Before (exact_cmp_total sources) (is_composite_of (length sources)) ks are.composite q i)
        (in-insert q k ks (found-has Before (exact_cmp_total sources) (exact_cmp_exact sources) q (insert_once key_cmp k ks) e)));
  }

  -- a key of some keys that is in the page of more is in their own
  pub page-fewer : (ks ms : List Key) → AreKeys ks → AreKeys ms → ((q : Key) → has_key q ks ≡ true → has_key q ms ≡ true)
      → (q : Key) → has_key q ks ≡ true → has_key q (page sources size after ms) ≡ true → has_key q (page sources size after ks) ≡ true
  page-fewer ks ms are are' sub q h g =
      page-in q ks are (front-more Before (exact_cmp_total sources) (exact_cmp_exact sources) (beyond sources after) size ks ms
      (λ j i. found-has Before (exact_cmp_total sources) (exact_cmp_exact sources) j ms (sub j (has-found Before (exact_cmp_total sources) (exact_cmp_exact sources) j ks i)))
      q (found-has Before (exact_cmp_total sources) (exact_cmp_exact sources) q ks h) (in-page q ms are' g))

  -- the page of one more key and the page so far
  pub page-insert : (k : Key) (ks : List Key) → AreKeys ks → T (is_composite_of (length sources) k)
      → page sources size after (insert_once key_cmp k (page sources size after ks)) ≡ page sources size after (insert_once key_cmp k ks)
  page-insert k ks are composite_k =
      page-is (insert_once key_cmp k (page sources size after ks)) (insert-keys k (page sources size after ks) (page-keys ks are) composite_k)
      ∙ ap distinct_keys (front-insert Before (exact_cmp_total sources) (exact_cmp_exact sources) (beyond sources after) size k ks (insert_once key_cmp k (page sources size after ks)) (insert_once key_cmp k ks)
      (λ q h. ⊎_elim (λ (e : q ≡ k). inl e)
      (λ (i : In q (page sources size after ks)). inr (in-page q ks are (has-found Before (exact_cmp_total sources) (exact_cmp_exact sources) q (page sources size after ks) i))) (in-insert q k (page sources size after ks) h))
      (λ q h. insert-in q k (page sources size after ks) (⊎_elim (λ (e : q ≡ k). inl e)
      (λ (i : In q (first ks)). inr (found-has Before (exact_cmp_total sources) (exact_cmp_exact sources) q (page sources size after ks) (page-in q ks are i))) h))
      (λ q h. in-insert q k ks h) (λ q h. insert-in q k ks h))
      ∙ sym (page-is (insert_once key_cmp k ks) (insert-keys k ks are composite_k))

-- the keys of rows at a composite aggregation
pub all-keys : (all : List PlacedRow) (sources : List CompositeSource) (size : ℕ) (after : Option Key) (rows : List PlacedRow) → AreKeys sources size after (all_keys all (kind.Composite sources size after) rows)
all-keys all sources size after rows = record {
  up = ascending-distinct_keys (flat_map (keys all (kind.Composite sources size after)) rows);
  composite = has-all (is_composite_of (length sources)) (all_keys all (kind.Composite sources size after) rows) (λ q e.
      of_rows q rows (sym (has_key-distinct_keys q (flat_map (keys all (kind.Composite sources size after)) rows)) ∙ e));
}
  where
    of_rows : (q : Key) (rows : List PlacedRow) → has_key q (flat_map (keys all (kind.Composite sources size after)) rows) ≡ true → is_composite_of (length sources) q ≡ true
    of_rows q [] e = absurd (subst T (sym e) tt)
    of_rows q (r ∷ rows) e =
        let ks = keys all (kind.Composite sources size after) r in
        ⊎_elim (λ (f : has_key q ks ≡ true). all-has key_cmp key_cmp_total (is_composite_of (length sources)) ks (composite-parts sources r) q (found-has key_cmp key_cmp_total exact_keys q ks f))
        (λ (f : has_key q ks ≡ false). of_rows q rows (sym (has_key-append q ks (flat_map (keys all (kind.Composite sources size after)) rows) ∙ ap (λ b. b || has_key q (flat_map (keys all (kind.Composite sources size after)) rows)) f) ∙ e)) (cases_Bool (has_key q ks))

-- a key of some rows that is outside their page stays outside
pub page-more : (all : List PlacedRow) (sources : List CompositeSource) (size : ℕ) (after : Option Key) (rows more : List PlacedRow) (q : Key) → has_key q (all_keys all (kind.Composite sources size after) rows) ≡ true
    → has_key q (page sources size after (all_keys all (kind.Composite sources size after) (rows ++ more))) ≡ true → has_key q (page sources size after (all_keys all (kind.Composite sources size after) rows)) ≡ true
page-more all sources size after rows more =
    let k = kind.Composite sources size after in
    page-fewer sources size after (all_keys all k rows) (all_keys all k (rows ++ more)) (all-keys all sources size after rows) (all-keys all sources size after (rows ++ more)) (λ q e.
    has_key-distinct_keys q (flat_map (keys all k) (rows ++ more)) ∙ ap (has_key q) (flat_map-append (keys all k) rows more) ∙ has_key-append q (flat_map (keys all k) rows) (flat_map (keys all k) more)
    ∙ ap (λ b. b || has_key q (flat_map (keys all k) more)) (sym (has_key-distinct_keys q (flat_map (keys all k) rows)) ∙ e))
