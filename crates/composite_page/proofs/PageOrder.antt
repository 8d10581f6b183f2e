-- The page of buckets: it is that of the order that any two keys have, and its keys are the page of the keys.
use Rattle.std.specs.Prelude.{◌≡◌, refl, ℕ, Bool, true, false, T, cond, List, [], ◌∷◌, filter, length, map, take, Option, Some, None}
use Rattle.std.specs.List.{list_all}
use Rattle.std.specs.declared.cmp.Ordering.{Ordering}
use Rattle.std.specs.Ordering.{is_gt, is_le}
use Rattle.std.proofs.Common.{sym, ◌∙◌, ap, zero, suc}
use Rattle.agg_model.specs.declared.aggregation.CompositeSource.{CompositeSource}
use Rattle.agg_model.specs.declared.key.Key.{Key}
use Rattle.agg_model.specs.declared.partial.Bucket.{Bucket}
use Rattle.agg_evaluation.specs.CompositeKeys.{is_composite_of}
use Rattle.agg_evaluation.specs.KeyOrder.{key_cmp}
use Rattle.agg_evaluation.specs.Orders.{bucket_key, composite_cmp}
use Rattle.agg_evaluation.specs.Shard.{page}
use Rattle.bucket_order.proofs.CompositeLaws.{same_composites}
use Rattle.composite_page.specs.Pages.{are_composite, is_beyond, is_beyond_any, is_cursor, page_buckets}
use Rattle.list_laws.specs.Sorting.{insert_sorted, sorted}
use Rattle.list_laws.proofs.Booleans.{and_left, and_right, true_is}
use Rattle.list_laws.proofs.Lists.{filter-map}
use Rattle.list_laws.proofs.Occurrences.{all-sorted}

-- two tests that agree on the items of a list
pub filter-agree : {A : Type 0} (q p r : A → Bool) (xs : List A) → T (list_all q xs) → ((x : A) → q x ≡ true → p x ≡ r x) → filter p xs ≡ filter r xs
filter-agree q p r [] all same = refl
filter-agree q p r (x ∷ xs) all same =
    ap (λ b. cond b (x ∷ filter p xs) (filter p xs)) (same x (true_is _ (and_left _ _ all)))
    ∙ ap (λ ys. cond (r x) (x ∷ ys) ys) (filter-agree q p r xs (and_right _ _ all) same)

-- the order that any two keys have is the stated one
pub beyond-any : (sources : List CompositeSource) (after : Option Key) (k : Key) → T (is_cursor (length sources) after) → is_composite_of (length sources) k ≡ true → is_beyond_any sources after k ≡ is_beyond sources after k
beyond-any sources None k cursor parts = refl
beyond-any sources (Some a) k cursor parts = ap is_gt (same_composites sources k a parts (true_is _ cursor))

-- the page by that order
pub page-any : (sources : List CompositeSource) (size : ℕ) (after : Option Key) (bs : List Bucket) → T (are_composite (length sources) bs) → T (is_cursor (length sources) after)
    → filter (λ b. is_beyond_any sources after (bucket_key b)) (sorted (λ a b. composite_cmp sources (bucket_key a) (bucket_key b)) bs)
    ≡ filter (λ b. is_beyond sources after (bucket_key b)) (sorted (λ a b. composite_cmp sources (bucket_key a) (bucket_key b)) bs)
page-any sources size after bs parts cursor =
    filter-agree (λ b. is_composite_of (length sources) (bucket_key b)) _ _ _
    (all-sorted (λ a b. composite_cmp sources (bucket_key a) (bucket_key b)) (λ b. is_composite_of (length sources) (bucket_key b)) bs parts)
    (λ b e. beyond-any sources after (bucket_key b) cursor e)

module _ {A B : Type 0} (f : A → B) (R : B → B → Ordering) where
  map-insert : (x : A) (ys : List A) → map f (insert_sorted (λ a b. R (f a) (f b)) x ys) ≡ insert_sorted R (f x) (map f ys)
  map-insert x [] = refl
  map-insert x (y ∷ ys) = elim (is_le (R (f x) (f y))) as (λ b. map f (cond b (x ∷ y ∷ ys) (y ∷ insert_sorted (λ a b. R (f a) (f b)) x ys)) ≡ cond b (f x ∷ f y ∷ map f ys) (f y ∷ insert_sorted R (f x) (map f ys))) [
    | true ↦ refl
    | false ↦ ap (λ zs. f y ∷ zs) (map-insert x ys)
  ]

  -- sorted by what they are mapped to
  pub map-sorted : (xs : List A) → map f (sorted (λ a b. R (f a) (f b)) xs) ≡ sorted R (map f xs)
  map-sorted [] = refl
  map-sorted (x ∷ xs) = map-insert x (sorted (λ a b. R (f a) (f b)) xs) ∙ ap (insert_sorted R (f x)) (map-sorted xs)

map-take : {A B : Type 0} (f : A → B) (n : ℕ) (xs : List A) → map f (take n xs) ≡ take n (map f xs)
map-take f zero xs = refl
map-take f (suc n) [] = refl
map-take f (suc n) (x ∷ xs) = ap (λ ys. f x ∷ ys) (map-take f n xs)

-- the keys of the page
pub page-keys : (sources : List CompositeSource) (size : ℕ) (after : Option Key) (bs : List Bucket) → map bucket_key (page_buckets sources size after bs) ≡ page sources size after (map bucket_key bs)
page-keys sources size after bs =
    let by = (λ (a b : Bucket). composite_cmp sources (bucket_key a) (bucket_key b)) in
    map-sorted bucket_key key_cmp (take size (filter (λ b. is_beyond sources after (bucket_key b)) (sorted by bs)))
    ∙ ap (sorted key_cmp) (map-take bucket_key size (filter (λ b. is_beyond sources after (bucket_key b)) (sorted by bs))
    ∙ ap (take size) (sym (filter-map (is_beyond sources after) bucket_key (sorted by bs)) ∙ ap (filter (is_beyond sources after)) (map-sorted bucket_key (composite_cmp sources) bs)))
