-- The buckets that a composite keeps are the first that come after `after`, in the order of its sources.
use Rattle.std.specs.Prelude.{◌≡◌, refl, ℕ, ◌≤◌, Bool, true, false, ◌||◌, cond, if◌then◌else◌, T, List, [], ◌∷◌, filter, length, map, take, Option}
use Rattle.std.specs.List.{list_all}
use Rattle.std.specs.Cmp.{IsTotalOrder}
use Rattle.std.specs.Ordering.{is_le, is_lt, ordering_then}
use Rattle.std.specs.declared.cmp.Ordering.{Ordering}
use Rattle.std.specs.declared.cmp.Ordering.TheVariants.{Less, Equal, Greater}
use Rattle.std.proofs.Common.{zero, suc, sym, ◌∙◌, ap, subst, arith, inl, inr, ⊎_elim}
use Rattle.std.proofs.lemmas.Bool.{false≢true}
use Rattle.agg_model.specs.declared.aggregation.CompositeSource.{CompositeSource}
use Rattle.agg_model.specs.declared.aggregation.Kind.TheVariants as kind
use Rattle.agg_model.specs.declared.key.Key.{Key}
use Rattle.agg_model.specs.declared.partial.Bucket.{Bucket}
use Rattle.agg_evaluation.specs.CompositeKeys.{is_composite_of}
use Rattle.agg_evaluation.specs.KeyOrder.{has_key, key_cmp, key_eq}
use Rattle.agg_evaluation.specs.Orders.{bucket_key}
use Rattle.agg_evaluation.specs.Shard.{page, sorted_by_key}
use Rattle.agg_evaluation.specs.Trees.{is_ascending}
use Rattle.agg_evaluation.proofs.KeyCompare.{key_cmp_total}
use Rattle.agg_evaluation.proofs.KeyExact.{exact_keys}
use Rattle.agg_evaluation.proofs.KeyLists.{is_below, key_eq-exact, key_eq-self}
use Rattle.agg_evaluation.proofs.SortedLists.{ascending-sorted}
use Rattle.composite_agg.specs.FirstPages.{page_cmp}
use Rattle.composite_page.proofs.PageOrder.{filter-agree, map-sorted}
use Rattle.composite_agg.proofs.PageSteps.{differs, differs_back}
use Rattle.growth_laws.specs.Arrived.{AreDistinct}
use Rattle.growth_laws.specs.Gathering.{kept_buckets}
use Rattle.growth_laws.proofs.CompositeOrder.{beyond, exact_cmp, exact_cmp_exact, exact_cmp_total, page-front}
use Rattle.growth_laws.proofs.Ordered.{Distinct, ascending-has, ascends-ascending, distinct-up, has-ascending, same-items, sorted-distinct}
use Rattle.growth_laws.proofs.PageKeys.{all-has}
use Rattle.growth_laws.proofs.Pages.{Ascends, Has}
use Rattle.list_laws.specs.Sorting.{ascending, insert_sorted, sorted}
use Rattle.list_laws.proofs.Booleans.{and_left, and_right, both, or_swap, true_is}
use Rattle.list_laws.proofs.Lists.{filter-map}
use Rattle.list_laws.proofs.Occurrences.{occurrences}
use Rattle.list_laws.proofs.Orders.{less_is}
use Rattle.composite_agg.specs.InOrder.{IsInOrder, all_behind}
use Rattle.composite_agg.proofs.InOrder.{all-map, all-take}

-- what stands in a list, and that none stands twice, do not depend on an order
has-other : {A : Type 0} (R S : A → A → Ordering) (t : IsTotalOrder R) (u : IsTotalOrder S) (q : A) (xs : List A) → Has R t q xs → Has S u q xs
has-other R S t u q [] h = h
has-other R S t u q (x ∷ xs) h = ⊎_elim (λ (e : q ≡ x). inl e) (λ (i : Has R t q xs). inr (has-other R S t u q xs i)) h

distinct-other : {A : Type 0} (R S : A → A → Ordering) (t : IsTotalOrder R) (u : IsTotalOrder S) (e : (x y : A) → R x y ≡ Equal → x ≡ y) (f : (x y : A) → S x y ≡ Equal → x ≡ y) (xs : List A) → Distinct R t e xs → Distinct S u f xs
distinct-other R S t u e f [] d = tt
distinct-other R S t u e f (x ∷ xs) d = (λ h. d.0 (has-other S R u t x xs h), distinct-other R S t u e f xs d.1)

-- a key stands in a sorted list where it stands in the list
has-insert : (q k : Key) (ks : List Key) → has_key q (insert_sorted key_cmp k ks) ≡ (key_eq q k || has_key q ks)
has-insert q k [] = refl
has-insert q k (j ∷ ks) =
    elim (is_le (key_cmp k j)) as (λ b. has_key q (if b then k ∷ j ∷ ks else (j ∷ insert_sorted key_cmp k ks)) ≡ (key_eq q k || (key_eq q j || has_key q ks))) [
      | true ↦ refl
      | false ↦ ap (λ b. key_eq q j || b) (has-insert q k ks) ∙ or_swap (key_eq q j) (key_eq q k) (has_key q ks)
    ]

has-sorted : (q : Key) (ks : List Key) → has_key q (sorted key_cmp ks) ≡ has_key q ks
has-sorted q [] = refl
has-sorted q (k ∷ ks) = has-insert q k (sorted key_cmp ks) ∙ ap (λ b. key_eq q k || b) (has-sorted q ks)

map-take : {A B : Type 0} (f : A → B) (n : ℕ) (xs : List A) → map f (take n xs) ≡ take n (map f xs)
map-take f zero xs = refl
map-take f (suc n) [] = refl
map-take f (suc n) (x ∷ xs) = ap (λ ys. f x ∷ ys) (map-take f n xs)

pub all-filter : {A : Type 0} (p q : A → Bool) (xs : List A) → T (list_all q xs) → T (list_all q (filter p xs))
all-filter p q [] all = tt
all-filter p q (x ∷ xs) all = elim (p x) as (λ c. T (list_all q (cond c (x ∷ filter p xs) (filter p xs)))) [
  | true ↦ both _ _ (and_left _ _ all) (all-filter p q xs (and_right _ _ all))
  | false ↦ all-filter p q xs (and_right _ _ all)
]

-- where all pass, all stay
pub filter-all : {A : Type 0} (p : A → Bool) (xs : List A) → T (list_all p xs) → filter p xs ≡ xs
filter-all p [] all = refl
filter-all p (x ∷ xs) all = ap (λ c. cond c (x ∷ filter p xs) (filter p xs)) (true_is _ (and_left _ _ all)) ∙ ap (λ ys. x ∷ ys) (filter-all p xs (and_right _ _ all))

filter-none : {A : Type 0} (xs : List A) → filter (λ x. false) xs ≡ []
filter-none [] = refl
filter-none (x ∷ xs) = filter-none xs

-- ---- buckets in the order of their keys

abbrev put : Bucket → List Bucket → List Bucket
put = insert_sorted (λ a b. key_cmp (bucket_key a) (bucket_key b))

le_then : (j k l : Key) → is_le (key_cmp j k) ≡ true → T (is_lt (key_cmp k l)) → T (is_le (key_cmp j l))
le_then j k l e f = elim (key_cmp j k) as (λ r. key_cmp j k ≡ r → is_le r ≡ true → T (is_le (key_cmp j l))) [
  | Less ↦ λ p g. subst (λ r. T (is_le r)) (sym (key_cmp_total.trans j k l p (less_is _ f))) tt
  | Equal ↦ λ p g. subst (λ r. T (is_le r)) (sym (ap (λ i. key_cmp i l) (exact_keys j k p) ∙ less_is _ f)) tt
  | Greater ↦ λ p g. absurd (false≢true g)
] refl e

all_le : (x y : Bucket) (ys : List Bucket) → is_le (key_cmp (bucket_key x) (bucket_key y)) ≡ true → T (is_below (bucket_key y) (map bucket_key ys)) → T (list_all (λ z. is_le (key_cmp (bucket_key x) (bucket_key z))) ys)
all_le x y [] e below = tt
all_le x y (z ∷ ys) e below = both _ _ (le_then (bucket_key x) (bucket_key y) (bucket_key z) e (and_left _ _ below)) (all_le x y ys e (and_right _ _ below))

put-first : (x : Bucket) (zs : List Bucket) → T (list_all (λ z. is_le (key_cmp (bucket_key x) (bucket_key z))) zs) → put x zs ≡ x ∷ zs
put-first x [] all = refl
put-first x (z ∷ zs) all = ap (λ b. if b then x ∷ z ∷ zs else (z ∷ put x zs)) (true_is _ (and_left _ _ all))

filter-put : (p : Bucket → Bool) (x : Bucket) (ys : List Bucket) → T (is_ascending (map bucket_key ys)) → filter p (put x ys) ≡ cond (p x) (put x (filter p ys)) (filter p ys)
filter-put p x [] up = refl
filter-put p x (y ∷ ys) up =
    elim (is_le (key_cmp (bucket_key x) (bucket_key y))) as (λ b. is_le (key_cmp (bucket_key x) (bucket_key y)) ≡ b
    → filter p (if b then x ∷ y ∷ ys else (y ∷ put x ys)) ≡ cond (p x) (put x (filter p (y ∷ ys))) (filter p (y ∷ ys))) [
      | true ↦ λ e. ap (λ zs. cond (p x) zs (filter p (y ∷ ys))) (sym (put-first x (filter p (y ∷ ys))
          (all-filter p (λ z. is_le (key_cmp (bucket_key x) (bucket_key z))) (y ∷ ys) (both _ _ (subst T (sym e) tt) (all_le x y ys e (and_left _ _ up))))))
      | false ↦ λ e. elim (p y) as (λ c. cond c (y ∷ filter p (put x ys)) (filter p (put x ys)) ≡ cond (p x) (put x (cond c (y ∷ filter p ys) (filter p ys))) (cond c (y ∷ filter p ys) (filter p ys))) [
        | true ↦ ap (λ zs. y ∷ zs) (filter-put p x ys (and_right _ _ up))
            ∙ (elim (p x) as (λ d. y ∷ cond d (put x (filter p ys)) (filter p ys) ≡ cond d (put x (y ∷ filter p ys)) (y ∷ filter p ys)) [
              | true ↦ sym (ap (λ b. if b then x ∷ y ∷ filter p ys else (y ∷ put x (filter p ys))) e)
              | false ↦ refl
            ])
        | false ↦ filter-put p x ys (and_right _ _ up)
      ]
    ] refl

module _ (sources : List CompositeSource) where
  -- no key of those behind a key is the key
  pub none-behind : (k : Key) (bs : List Bucket) → T (all_behind bucket_key sources k bs) → has_key k (map bucket_key bs) ≡ false
  none-behind k [] all = refl
  none-behind k (b ∷ bs) all = ap (λ t. t || has_key k (map bucket_key bs)) (differs_back sources (bucket_key b) k (and_left _ _ all)) ∙ none-behind k bs (and_right _ _ all)

  none-occurs : (q : Key) (bs : List Bucket) → T (all_behind bucket_key sources q bs) → occurrences (λ b. key_eq q (bucket_key b)) bs ≡ 0
  none-occurs q [] all = refl
  none-occurs q (b ∷ bs) all =
      ap (λ c. cond c (suc (occurrences (λ b. key_eq q (bucket_key b)) bs)) (occurrences (λ b. key_eq q (bucket_key b)) bs)) (differs_back sources (bucket_key b) q (and_left _ _ all))
      ∙ none-occurs q bs (and_right _ _ all)

  -- no key stands twice
  pub distinct-order : (bs : List Bucket) → IsInOrder bucket_key sources bs → AreDistinct bs
  distinct-order [] order q = omega arith
  distinct-order (b ∷ bs) order q =
      elim (key_eq q (bucket_key b)) as (λ c. key_eq q (bucket_key b) ≡ c → cond c (suc (occurrences (λ b. key_eq q (bucket_key b)) bs)) (occurrences (λ b. key_eq q (bucket_key b)) bs) ≤ 1) [
        | true ↦ λ e.
            let same : q ≡ bucket_key b = key_eq-exact q (bucket_key b) (subst T (sym e) tt) in
            let none = none-occurs q bs (subst (λ k. T (all_behind bucket_key sources k bs)) (sym same) order.0) in
            omega arith
        | false ↦ λ e. distinct-order bs order.1 q
      ] refl

  filter-sorted : (p : Bucket → Bool) (bs : List Bucket) → IsInOrder bucket_key sources bs → filter p (sorted_by_key bs) ≡ sorted_by_key (filter p bs)
  filter-sorted p [] order = refl
  filter-sorted p (b ∷ bs) order =
      filter-put p b (sorted_by_key bs) (ascending-sorted bucket_key bs (distinct-order bs order.1))
      ∙ (elim (p b) as (λ c. cond c (put b (filter p (sorted_by_key bs))) (filter p (sorted_by_key bs)) ≡ sorted_by_key (cond c (b ∷ filter p bs) (filter p bs))) [
        | true ↦ ap (put b) (filter-sorted p bs order.1)
        | false ↦ filter-sorted p bs order.1
      ])

  -- the first that pass, by their keys
  first-kept : (n : ℕ) (p : Bucket → Bool) (bs : List Bucket) → IsInOrder bucket_key sources bs → filter (λ b. has_key (bucket_key b) (map bucket_key (take n (filter p bs)))) bs ≡ take n (filter p bs)
  first-kept zero p [] order = refl
  first-kept (suc n) p [] order = refl
  first-kept n p (b ∷ bs) order =
      elim (p b) as (λ c. filter (λ x. has_key (bucket_key x) (map bucket_key (take n (cond c (b ∷ filter p bs) (filter p bs))))) (b ∷ bs) ≡ take n (cond c (b ∷ filter p bs) (filter p bs))) [
        | true ↦ passes n (λ m. first-kept m p bs order.1)
        | false ↦
            let zs = take n (filter p bs) in
            ap (λ c. cond c (b ∷ filter (λ x. has_key (bucket_key x) (map bucket_key zs)) bs) (filter (λ x. has_key (bucket_key x) (map bucket_key zs)) bs))
            (none-behind (bucket_key b) zs (all-take (λ x. is_lt (page_cmp sources (bucket_key b) (bucket_key x))) (filter p bs) n (all-filter p (λ x. is_lt (page_cmp sources (bucket_key b) (bucket_key x))) bs order.0)))
            ∙ first-kept n p bs order.1
      ]
    where
      passes : (m : ℕ) → ((n : ℕ) → filter (λ x. has_key (bucket_key x) (map bucket_key (take n (filter p bs)))) bs ≡ take n (filter p bs)) → filter (λ x. has_key (bucket_key x) (map bucket_key (take m (b ∷ filter p bs)))) (b ∷ bs) ≡ take m (b ∷ filter p bs)
      passes zero rest = filter-none bs
      passes (suc m) rest =
          let zs = take m (filter p bs) in
          ap (λ c. cond (c || has_key (bucket_key b) (map bucket_key zs)) (b ∷ filter (λ x. key_eq (bucket_key x) (bucket_key b) || has_key (bucket_key x) (map bucket_key zs)) bs)
          (filter (λ x. key_eq (bucket_key x) (bucket_key b) || has_key (bucket_key x) (map bucket_key zs)) bs)) (key_eq-self (bucket_key b))
          ∙ ap (λ xs. b ∷ xs) (filter-agree (λ x. is_lt (page_cmp sources (bucket_key b) (bucket_key x))) _ _ bs order.0
          (λ x e. ap (λ c. c || has_key (bucket_key x) (map bucket_key zs)) (differs sources (bucket_key b) (bucket_key x) (subst T (sym e) tt)))
          ∙ rest m)

  abbrev In : Key → List Key → Type 0
  In = Has (exact_cmp sources) (exact_cmp_total sources)

  ascends : (bs : List Bucket) → IsInOrder bucket_key sources bs → Ascends (exact_cmp sources) (exact_cmp_total sources) (map bucket_key bs)
  ascends [] order = tt
  ascends (b ∷ bs) order = (λ k h. before bs order.0 k h, ascends bs order.1)
    where
      before : (cs : List Bucket) → T (all_behind bucket_key sources (bucket_key b) cs) → (k : Key) → In k (map bucket_key cs) → exact_cmp sources (bucket_key b) k ≡ Less
      before [] all k h = absurd h
      before (c ∷ cs) all k h = ⊎_elim
          (λ (e : k ≡ bucket_key c). ap (exact_cmp sources (bucket_key b)) e ∙ ap (λ o. ordering_then o (key_cmp (bucket_key b) (bucket_key c))) (less_is _ (and_left _ _ all)))
          (λ (i : In k (map bucket_key cs)). before cs (and_right _ _ all) k i) h

  module _ (bs : List Bucket) (order : IsInOrder bucket_key sources bs) (parts : T (list_all (λ b. is_composite_of (length sources) (bucket_key b)) bs)) where
    abbrev ks : List Key
    ks = map bucket_key bs

    -- by key
    abbrev js : List Key
    js = ascending key_cmp ks

    js-ks : (q : Key) → In q js → In q ks
    js-ks q h = has-other key_cmp (exact_cmp sources) key_cmp_total (exact_cmp_total sources) q ks (has-ascending key_cmp key_cmp_total exact_keys q ks (has-other (exact_cmp sources) key_cmp (exact_cmp_total sources) key_cmp_total q js h))

    ks-js : (q : Key) → In q ks → In q js
    ks-js q h = has-other key_cmp (exact_cmp sources) key_cmp_total (exact_cmp_total sources) q js (ascending-has key_cmp key_cmp_total exact_keys q ks (has-other (exact_cmp sources) key_cmp (exact_cmp_total sources) key_cmp_total q ks h))

    js-is : map bucket_key (sorted_by_key bs) ≡ js
    js-is = map-sorted bucket_key key_cmp bs ∙ sorted-distinct key_cmp key_cmp_total exact_keys ks (distinct-other (exact_cmp sources) key_cmp (exact_cmp_total sources) key_cmp_total (exact_cmp_exact sources) exact_keys ks
        (distinct-up (exact_cmp sources) (exact_cmp_total sources) (exact_cmp_exact sources) ks (ascends bs order)))

    -- in the order of the sources they are the keys again
    again : ascending (exact_cmp sources) js ≡ ks
    again = same-items (exact_cmp sources) (exact_cmp_total sources) (exact_cmp_exact sources) (ascending (exact_cmp sources) js) ks
        (ascends-ascending (exact_cmp sources) (exact_cmp_total sources) (exact_cmp_exact sources) js) (ascends bs order)
        (λ q h. js-ks q (has-ascending (exact_cmp sources) (exact_cmp_total sources) (exact_cmp_exact sources) q js h))
        (λ q h. ascending-has (exact_cmp sources) (exact_cmp_total sources) (exact_cmp_exact sources) q js (ks-js q h))

    page-is : (size : ℕ) (after : Option Key) → page sources size after (map bucket_key (sorted_by_key bs)) ≡ sorted key_cmp (take size (filter (beyond sources after) ks))
    page-is size after =
        ap (page sources size after) js-is
        ∙ page-front sources size after js
        (λ k h. all-has (exact_cmp sources) (exact_cmp_total sources) (is_composite_of (length sources)) ks (all-map bucket_key (is_composite_of (length sources)) bs parts) k (js-ks k h))
        (distinct-other key_cmp (exact_cmp sources) key_cmp_total (exact_cmp_total sources) exact_keys (exact_cmp_exact sources) js
        (distinct-up key_cmp key_cmp_total exact_keys js (ascends-ascending key_cmp key_cmp_total exact_keys ks)))
        ∙ ap (λ xs. sorted key_cmp (take size (filter (beyond sources after) xs))) again

    -- the buckets that are kept
    pub kept-first : (size : ℕ) (after : Option Key) → kept_buckets (kind.Composite sources size after) (sorted_by_key bs) ≡ sorted_by_key (take size (filter (λ b. beyond sources after (bucket_key b)) bs))
    kept-first size after =
        let zs = take size (filter (beyond sources after) ks) in
        let zs_are : zs ≡ map bucket_key (take size (filter (λ b. beyond sources after (bucket_key b)) bs)) =
        ap (take size) (filter-map (beyond sources after) bucket_key bs) ∙ sym (map-take bucket_key size (filter (λ b. beyond sources after (bucket_key b)) bs)) in
        ap (λ xs. filter (λ b. has_key (bucket_key b) xs) (sorted_by_key bs)) (page-is size after)
        ∙ (λ i. filter (λ b. has-sorted (bucket_key b) zs i) (sorted_by_key bs))
        ∙ (λ i. filter (λ b. has_key (bucket_key b) (zs_are i)) (sorted_by_key bs))
        ∙ filter-sorted (λ b. has_key (bucket_key b) (map bucket_key (take size (filter (λ b. beyond sources after (bucket_key b)) bs)))) bs order
        ∙ ap sorted_by_key (first-kept size (λ b. beyond sources after (bucket_key b)) bs order)
