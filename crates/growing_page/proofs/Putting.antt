-- One key's rows put into a page: what the composite keeps.
use Rattle.std.specs.Prelude.{◌≡◌, refl, ℕ, zero, suc, ◌≤◌, Bool, true, false, ◌||◌, cond, T, List, [], ◌∷◌, ◌++◌, filter, length, map, take, drop, Option, Some, None}
use Rattle.std.specs.List.{list_all}
use Rattle.std.specs.Cmp.{IsTotalOrder}
use Rattle.std.specs.FinMap.Entries.{find}
use Rattle.std.specs.Ordering.{is_gt, is_lt, ordering_reverse}
use Rattle.std.specs.declared.cmp.Ordering.{Ordering}
use Rattle.std.specs.declared.cmp.Ordering.TheVariants.{Less, Equal, Greater}
use Rattle.std.proofs.Common.{sym, ◌∙◌, ap, subst, arith}
use Rattle.std.proofs.Math.ListN.{set}
use Rattle.std.proofs.lemmas.Bool.{false≢true, or_parts, true≢false}
use Rattle.agg_model.specs.declared.aggregation.Kind.{Kind}
use Rattle.agg_model.specs.declared.aggregation.Kind.TheVariants as kind
use Rattle.agg_model.specs.declared.key.Key.{Key}
use Rattle.agg_model.specs.declared.partial.Bucket.{Bucket}
use Rattle.agg_evaluation.specs.CompositeKeys.{is_composite_of}
use Rattle.agg_evaluation.specs.KeyOrder.{has_key, key_cmp, key_eq}
use Rattle.agg_evaluation.specs.Orders.{bucket_key}
use Rattle.agg_evaluation.specs.Rows.{PlacedRow}
use Rattle.agg_evaluation.specs.Shard.{sorted_by_key}
use Rattle.agg_evaluation.proofs.KeyLists.{key_eq-exact, key_eq-self}
use Rattle.bucket_order.specs.Composites.{any_parts_cmp, key_parts}
use Rattle.bucket_order.proofs.CompositeLaws.{any_parts_total}
use Rattle.composite_agg.specs.FirstPages.{FirstPage, empty_page, is_composite, page_cmp}
use Rattle.composite_page.specs.Pages.{is_beyond_any, is_cursor}
use Rattle.composite_page.proofs.PageOrder.{beyond-any}
use Rattle.composite_agg.proofs.PageSteps.{differs}
use Rattle.composite_agg.proofs.Steps.{take-whole}
use Rattle.growth_laws.specs.Arrived.{AreDistinct, IsAt}
use Rattle.growth_laws.specs.Gathering.{Gatherer, empty_bucket, gathered_bucket, kept_buckets, put_rows}
use Rattle.growth_laws.proofs.CompositeOrder.{beyond}
use Rattle.growing_tree.proofs.Arriving.{arrived-push, arrived-set, entries, grown-sorted, next}
use Rattle.list_laws.proofs.Booleans.{and_left, and_right, both, holds, true_is}
use Rattle.list_laws.proofs.Lists.{filter-append}
use Rattle.composite_agg.specs.InOrder.{IsInOrder, all_before, all_behind}
use Rattle.growing_page.proofs.Kept.{distinct-order, filter-all, kept-first, none-behind}

-- ---- the rows of a key among the buckets by key

module _ (gs : List Gatherer) (rows : List PlacedRow) (k : Key) where
  -- the bucket of a new key
  abbrev pub fresh : Bucket
  fresh = gathered_bucket gs rows (empty_bucket gs k)

  -- two choices in the other order, where both give the same
  swap : {A : Type 0} (a b : Bool) (x y z : A) → (a ≡ true → b ≡ true → ⊥) → cond a x (cond b y z) ≡ cond b y (cond a x z)
  swap true true x y z h = absurd (h refl refl)
  swap true false x y z h = refl
  swap false true x y z h = refl
  swap false false x y z h = refl

  same_key : (q j : Key) → key_eq q j ≡ true → q ≡ j
  same_key q j e = key_eq-exact q j (holds _ e)

  found-insert : (bs : List Bucket) (i : ℕ) → has_key k (map bucket_key bs) ≡ false → (q : Key)
      → find key_cmp q (entries (take i bs ++ fresh ∷ drop i bs)) ≡ cond (key_eq q k) (Some fresh) (find key_cmp q (entries bs))
  found-insert [] zero none q = refl
  found-insert [] (suc i) none q = refl
  found-insert (b ∷ bs) zero none q = refl
  found-insert (b ∷ bs) (suc i) none q =
      let parts = or_parts (key_eq k (bucket_key b)) (has_key k (map bucket_key bs)) none in
      ap (cond (key_eq q (bucket_key b)) (Some b)) (found-insert bs i parts.1 q)
      ∙ swap (key_eq q (bucket_key b)) (key_eq q k) (Some b) (Some fresh) (find key_cmp q (entries bs))
      (λ e f. true≢false (sym (key_eq-self k) ∙ ap (key_eq k) (sym (same_key q k f) ∙ same_key q (bucket_key b) e) ∙ parts.0))

  found-none : (bs : List Bucket) → has_key k (map bucket_key bs) ≡ false → find key_cmp k (entries bs) ≡ None
  found-none [] none = refl
  found-none (b ∷ bs) none =
      let parts = or_parts (key_eq k (bucket_key b)) (has_key k (map bucket_key bs)) none in
      ap (λ c. cond c (Some b) (find key_cmp k (entries bs))) parts.0 ∙ found-none bs parts.1

  pub put-new : (bs : List Bucket) (i : ℕ) → AreDistinct bs → AreDistinct (take i bs ++ fresh ∷ drop i bs) → has_key k (map bucket_key bs) ≡ false
      → sorted_by_key (take i bs ++ fresh ∷ drop i bs) ≡ put_rows gs rows k (sorted_by_key bs)
  put-new bs i distinct distinct' none =
      grown-sorted gs rows k bs (take i bs ++ fresh ∷ drop i bs) distinct distinct' (λ q.
      found-insert bs i none q ∙ ap (λ o. cond (key_eq q k) (Some (next gs rows k o)) (find key_cmp q (entries bs))) (sym (found-none bs none)))

  pub put-front : (bs : List Bucket) → AreDistinct bs → AreDistinct (fresh ∷ bs) → has_key k (map bucket_key bs) ≡ false → sorted_by_key (fresh ∷ bs) ≡ put_rows gs rows k (sorted_by_key bs)
  put-front bs distinct distinct' none =
      grown-sorted gs rows k bs (fresh ∷ bs) distinct distinct' (λ q. ap (λ o. cond (key_eq q k) (Some (next gs rows k o)) (find key_cmp q (entries bs))) (sym (found-none bs none)))

-- ---- what a composite keeps

pub take-front : {A : Type 0} (xs ys : List A) (n : ℕ) → length xs ≡ n → take n (xs ++ ys) ≡ xs
take-front [] ys zero e = refl
take-front [] ys (suc n) e = absurd (omega (arith, e))
take-front (x ∷ xs) ys zero e = absurd (omega (arith, e))
take-front (x ∷ xs) ys (suc n) e = ap (λ zs. x ∷ zs) (take-front xs ys n (omega (arith, e)))

-- the parts of a page on which the order rests
pub record AreSorted (p : FirstPage) (bs : List Bucket) : Type 0 where
  pub order : IsInOrder bucket_key p.sources bs
  pub parts : T (list_all (λ b. is_composite_of (length p.sources) (bucket_key b)) bs)

module _ (k : Kind) (composite : is_composite k ≡ true) (cursor : T (is_cursor (length (empty_page k).sources) (empty_page k).after)) where
  abbrev page_of : FirstPage
  page_of = empty_page k

  abbrev comes_after : Key → Bool
  comes_after q = is_beyond_any page_of.sources page_of.after q

  kept-here : (j : Kind) → is_composite j ≡ true → (bs : List Bucket) → AreSorted (empty_page j) bs
      → kept_buckets j (sorted_by_key bs) ≡ sorted_by_key (take (empty_page j).size (filter (λ b. beyond (empty_page j).sources (empty_page j).after (bucket_key b)) bs))
  kept-here (kind.Composite sources size after) e bs sorts = kept-first sources bs sorts.order sorts.parts size after
  kept-here _ e bs sorts = absurd (false≢true e)

  -- by the order that any two keys have
  same-test : (bs : List Bucket) → T (list_all (λ b. is_composite_of (length page_of.sources) (bucket_key b)) bs)
      → filter (λ b. beyond page_of.sources page_of.after (bucket_key b)) bs ≡ filter (λ b. comes_after (bucket_key b)) bs
  same-test [] parts = refl
  same-test (b ∷ bs) parts =
      ap (λ c. cond c (b ∷ filter (λ b. beyond page_of.sources page_of.after (bucket_key b)) bs) (filter (λ b. beyond page_of.sources page_of.after (bucket_key b)) bs))
      (sym (beyond-any page_of.sources page_of.after (bucket_key b) cursor (true_is _ (and_left _ _ parts))))
      ∙ ap (λ xs. cond (comes_after (bucket_key b)) (b ∷ xs) xs) (same-test bs (and_right _ _ parts))

  kept : (bs : List Bucket) → AreSorted page_of bs → kept_buckets k (sorted_by_key bs) ≡ sorted_by_key (take page_of.size (filter (λ b. comes_after (bucket_key b)) bs))
  kept bs sorts = kept-here k composite bs sorts ∙ ap (λ xs. sorted_by_key (take page_of.size xs)) (same-test bs sorts.parts)

  -- where all come after `after`, the first stay
  pub kept-all : (bs : List Bucket) → AreSorted page_of bs → T (list_all (λ b. comes_after (bucket_key b)) bs) → kept_buckets k (sorted_by_key bs) ≡ sorted_by_key (take page_of.size bs)
  kept-all bs sorts after = kept bs sorts ∙ ap (λ xs. sorted_by_key (take page_of.size xs)) (filter-all (λ b. comes_after (bucket_key b)) bs after)

  module _ (gs : List Gatherer) (rows : List PlacedRow) (q : Key) (bs : List Bucket) (sorts : AreSorted page_of bs) (within : length bs ≤ page_of.size)
      (after : T (list_all (λ b. comes_after (bucket_key b)) bs)) where
    -- a page keeps what it has
    take-page : (xs : List Bucket) → length xs ≤ page_of.size → take page_of.size xs ≡ xs
    take-page xs le = take-whole xs page_of.size le

    -- a key that the page has
    pub put-held : (i : ℕ) (b : Bucket) → IsAt q bs i b → AreSorted page_of (set bs i (gathered_bucket gs rows b)) → T (list_all (λ b. comes_after (bucket_key b)) (set bs i (gathered_bucket gs rows b)))
        → length (set bs i (gathered_bucket gs rows b)) ≤ page_of.size
        → kept_buckets k (put_rows gs rows q (sorted_by_key bs)) ≡ sorted_by_key (set bs i (gathered_bucket gs rows b))
    put-held i b here sorts' after' within' =
        ap (kept_buckets k) (sym (arrived-set gs rows q bs i b (distinct-order page_of.sources bs sorts.order) here))
        ∙ kept-all (set bs i (gathered_bucket gs rows b)) sorts' after' ∙ ap sorted_by_key (take-page (set bs i (gathered_bucket gs rows b)) within')

    -- a new key
    pub put-entered : (i : ℕ) → has_key q (map bucket_key bs) ≡ false → AreSorted page_of (take i bs ++ fresh gs rows q ∷ drop i bs)
        → T (list_all (λ b. comes_after (bucket_key b)) (take i bs ++ fresh gs rows q ∷ drop i bs))
        → kept_buckets k (put_rows gs rows q (sorted_by_key bs)) ≡ sorted_by_key (take page_of.size (take i bs ++ fresh gs rows q ∷ drop i bs))
    put-entered i none sorts' after' =
        ap (kept_buckets k) (sym (put-new gs rows q bs i (distinct-order page_of.sources bs sorts.order) (distinct-order page_of.sources _ sorts'.order) none))
        ∙ kept-all (take i bs ++ fresh gs rows q ∷ drop i bs) sorts' after'

    module _ (parts : is_composite_of (length page_of.sources) q ≡ true) where
      -- the key does not come after `after`
      before-after : (j : Key) → comes_after q ≡ false → comes_after j ≡ true → T (is_lt (page_cmp page_of.sources q j))
      before-after j e f = by page_of.after e f
        where
          total : IsTotalOrder (any_parts_cmp page_of.sources)
          total = any_parts_total page_of.sources

          not_greater : (a : Key) (o : Ordering) → page_cmp page_of.sources q a ≡ o → is_gt o ≡ false → page_cmp page_of.sources a j ≡ Less → page_cmp page_of.sources q j ≡ Less
          not_greater a Less e f g = total.trans (key_parts q) (key_parts a) (key_parts j) e g
          not_greater a Equal e f g = total.congr (key_parts q) (key_parts a) (key_parts j) e ∙ g
          not_greater a Greater e f g = absurd (true≢false f)

          flipped : (o p : Ordering) → o ≡ ordering_reverse p → is_gt p ≡ true → o ≡ Less
          flipped o Less e f = absurd (false≢true f)
          flipped o Equal e f = absurd (false≢true f)
          flipped o Greater e f = e

          by : (o : Option Key) → is_beyond_any page_of.sources o q ≡ false → is_beyond_any page_of.sources o j ≡ true → T (is_lt (page_cmp page_of.sources q j))
          by None e f = absurd (true≢false e)
          by (Some a) e f = subst (λ o. T (is_lt o)) (sym (not_greater a (page_cmp page_of.sources q a) refl e (flipped (page_cmp page_of.sources a j) (page_cmp page_of.sources j a) (total.antisymm (key_parts a) (key_parts j)) f))) tt

      before-all : comes_after q ≡ false → (xs : List Bucket) → T (list_all (λ b. comes_after (bucket_key b)) xs) → T (all_behind bucket_key page_of.sources q xs)
      before-all e [] all = tt
      before-all e (x ∷ xs) all = both _ _ (before-after (bucket_key x) e (true_is _ (and_left _ _ all))) (before-all e xs (and_right _ _ all))

      -- a key that does not come after `after`
      pub put-before : comes_after q ≡ false → kept_buckets k (put_rows gs rows q (sorted_by_key bs)) ≡ sorted_by_key bs
      put-before e =
          let behind = before-all e bs after in
          let order' : IsInOrder bucket_key page_of.sources (fresh gs rows q ∷ bs) = (behind, sorts.order) in
          ap (kept_buckets k) (sym (put-front gs rows q bs (distinct-order page_of.sources bs sorts.order) (distinct-order page_of.sources (fresh gs rows q ∷ bs) order') (none-behind page_of.sources q bs behind)))
          ∙ kept (fresh gs rows q ∷ bs) (record { order = order'; parts = both _ _ (holds _ parts) sorts.parts })
          ∙ ap (λ c. sorted_by_key (take page_of.size (cond c (fresh gs rows q ∷ filter (λ b. comes_after (bucket_key b)) bs) (filter (λ b. comes_after (bucket_key b)) bs)))) e
          ∙ ap (λ xs. sorted_by_key (take page_of.size xs)) (filter-all (λ b. comes_after (bucket_key b)) bs after)
          ∙ ap sorted_by_key (take-page bs within)

      none-before : (xs : List Bucket) → T (all_before bucket_key page_of.sources q xs) → has_key q (map bucket_key xs) ≡ false
      none-before [] all = refl
      none-before (x ∷ xs) all = ap (λ c. c || has_key q (map bucket_key xs)) (differs page_of.sources (bucket_key x) q (and_left _ _ all)) ∙ none-before xs (and_right _ _ all)

      order-end : (xs : List Bucket) → IsInOrder bucket_key page_of.sources xs → T (all_before bucket_key page_of.sources q xs) → IsInOrder bucket_key page_of.sources (xs ++ fresh gs rows q ∷ [])
      order-end [] order all = (tt, tt)
      order-end (x ∷ xs) order all = (more xs (and_left _ _ all) order.0, order-end xs order.1 (and_right _ _ all))
        where
          more : (ys : List Bucket) → T (is_lt (page_cmp page_of.sources (bucket_key x) q)) → T (all_behind bucket_key page_of.sources (bucket_key x) ys) → T (all_behind bucket_key page_of.sources (bucket_key x) (ys ++ fresh gs rows q ∷ []))
          more [] first all = both _ _ first tt
          more (y ∷ ys) first all = both _ _ (and_left _ _ all) (more ys first (and_right _ _ all))

      parts-end : (xs : List Bucket) → T (list_all (λ b. is_composite_of (length page_of.sources) (bucket_key b)) xs) → T (list_all (λ b. is_composite_of (length page_of.sources) (bucket_key b)) (xs ++ fresh gs rows q ∷ []))
      parts-end [] all = both _ _ (holds _ parts) tt
      parts-end (x ∷ xs) all = both _ _ (and_left _ _ all) (parts-end xs (and_right _ _ all))

      -- a key that comes after all of a full page
      pub put-last : T (all_before bucket_key page_of.sources q bs) → length bs ≡ page_of.size → kept_buckets k (put_rows gs rows q (sorted_by_key bs)) ≡ sorted_by_key bs
      put-last all full =
          ap (kept_buckets k) (sym (arrived-push gs rows q bs (distinct-order page_of.sources bs sorts.order) (none-before bs all)))
          ∙ kept (bs ++ fresh gs rows q ∷ []) (record { order = order-end bs sorts.order all; parts = parts-end bs sorts.parts })
          ∙ ap (λ xs. sorted_by_key (take page_of.size xs)) (filter-append (λ b. comes_after (bucket_key b)) bs (fresh gs rows q ∷ [])
          ∙ ap (λ xs. xs ++ filter (λ b. comes_after (bucket_key b)) (fresh gs rows q ∷ [])) (filter-all (λ b. comes_after (bucket_key b)) bs after))
          ∙ ap sorted_by_key (take-front bs (filter (λ b. comes_after (bucket_key b)) (fresh gs rows q ∷ [])) page_of.size full)
