-- The children of a bucket of a page, exchanged for others.
use Rattle.std.proofs.Common.{◌≡◌, refl, ℕ, zero, suc, ◌<◌, Bool, true, false, cond, List, [], ◌∷◌, length, get_or, slice_set, map, sym, ◌∙◌, ap, subst, arith}
use Rattle.std.specs.Prelude.{T, ◌||◌}
use Rattle.std.specs.List.{list_all}
use Rattle.std.specs.Ordering.{is_lt}
use Rattle.std.proofs.lemmas.Bool.{false≢true}
use Rattle.agg_model.specs.declared.aggregation.CompositeSource.{CompositeSource}
use Rattle.agg_model.specs.declared.key.Key.{Key}
use Rattle.agg_model.specs.declared.partial.Bucket.{Bucket}
use Rattle.agg_model.specs.declared.partial.Node.{Node}
use Rattle.agg_evaluation.specs.CompositeKeys.{is_composite_of}
use Rattle.agg_evaluation.specs.KeyOrder.{has_key, key_eq}
use Rattle.agg_evaluation.specs.Orders.{bucket_key}
use Rattle.agg_evaluation.proofs.KeyLists.{key_eq-exact, key_eq-self}
use Rattle.list_laws.proofs.Booleans.{and_left, and_right, holds, true_is}
use Rattle.composite_page.specs.Pages.{are_composite}
use Rattle.composite_agg.specs.FirstPages.{FirstPage, AreInOrder, IsPage, children_of, page_cmp, page_with_children, with_children}
use Rattle.composite_agg.proofs.PageSteps.{differs, differs_back}
use Rattle.composite_agg.proofs.PlaceOrder.{at}
use Rattle.composite_agg.proofs.Offers.{page-same_keys}

neither : (a b : Bool) → (a || b) ≡ false → (a ≡ false) × (b ≡ false)
neither true b e = absurd (false≢true (sym e))
neither false b e = (refl, e)

module _ (k : Key) (children : List Node) where
  pub key-with : (b : Bucket) → bucket_key (with_children k children b) ≡ bucket_key b
  key-with b = elim (key_eq k (bucket_key b)) as (λ t. bucket_key (cond t (record b { children = children }) b) ≡ bucket_key b) [ true ↦ refl | false ↦ refl ]

  -- a key that no bucket has changes nothing
  pub none-with : (bs : List Bucket) → has_key k (map bucket_key bs) ≡ false → map (with_children k children) bs ≡ bs
  none-with [] e = refl
  none-with (b ∷ bs) e =
      let n = neither (key_eq k (bucket_key b)) (has_key k (map bucket_key bs)) e in
      ap (λ t. cond t (record b { children = children }) b ∷ map (with_children k children) bs) n.0 ∙ ap (λ xs. b ∷ xs) (none-with bs n.1)

  pub none-children : (bs : List Bucket) → has_key k (map bucket_key bs) ≡ false → children_of k children bs ≡ children
  none-children [] e = refl
  none-children (b ∷ bs) e =
      let n = neither (key_eq k (bucket_key b)) (has_key k (map bucket_key bs)) e in
      ap (λ t. cond t b.children (children_of k children bs)) n.0 ∙ none-children bs n.1

  -- a key with a part too few or too many is nowhere
  pub other-parts : (n : ℕ) (bs : List Bucket) → T (are_composite n bs) → is_composite_of n k ≡ false → has_key k (map bucket_key bs) ≡ false
  other-parts n [] all e = refl
  other-parts n (b ∷ bs) all e = elim (key_eq k (bucket_key b)) as (λ t. key_eq k (bucket_key b) ≡ t → (t || has_key k (map bucket_key bs)) ≡ false) [
    | true ↦ λ same. absurd (false≢true (sym e ∙ ap (is_composite_of n) (key_eq-exact k (bucket_key b) (holds _ same)) ∙ true_is _ (and_left _ _ all)))
    | false ↦ λ same. other-parts n bs (and_right _ _ all) e
  ] refl

  module _ (sources : List CompositeSource) where
    after-none : (bs : List Bucket) → T (list_all (λ b. is_lt (page_cmp sources k (bucket_key b))) bs) → map (with_children k children) bs ≡ bs
    after-none [] all = refl
    after-none (b ∷ bs) all =
        ap (λ t. cond t (record b { children = children }) b ∷ map (with_children k children) bs) (differs_back sources (bucket_key b) k (and_left _ _ all)) ∙ ap (λ xs. b ∷ xs) (after-none bs (and_right _ _ all))

    -- the bucket of the key has the others
    pub with-at : (bs : List Bucket) (i : ℕ) (d : Bucket) → AreInOrder sources bs → i < length bs → bucket_key (get_or bs i d) ≡ k
        → map (with_children k children) bs ≡ slice_set bs i (record (get_or bs i d) { children = children })
    with-at [] i d order below is = absurd (omega (arith, below))
    with-at (b ∷ bs) zero d order below is =
        ap (λ t. cond t (record b { children = children }) b ∷ map (with_children k children) bs) (ap (key_eq k) is ∙ key_eq-self k)
        ∙ ap (λ xs. (record b { children = children }) ∷ xs) (after-none bs (subst (λ j. T (list_all (λ c. is_lt (page_cmp sources j (bucket_key c))) bs)) is order.0))
    with-at (b ∷ bs) (suc i) d order below is =
        ap (λ t. cond t (record b { children = children }) b ∷ map (with_children k children) bs) (differs sources (bucket_key b) k (subst (λ j. T (is_lt (page_cmp sources (bucket_key b) j))) is (at (λ c. is_lt (page_cmp sources (bucket_key b) (bucket_key c))) bs i d (omega (arith, below)) order.0)))
        ∙ ap (λ xs. b ∷ xs) (with-at bs i d order.1 (omega (arith, below)) is)

    -- and its own are those that were lent
    pub children-at : (bs : List Bucket) (i : ℕ) (d : Bucket) → AreInOrder sources bs → i < length bs → bucket_key (get_or bs i d) ≡ k → children_of k children bs ≡ (get_or bs i d).children
    children-at [] i d order below is = absurd (omega (arith, below))
    children-at (b ∷ bs) zero d order below is = ap (λ t. cond t b.children (children_of k children bs)) (ap (key_eq k) is ∙ key_eq-self k)
    children-at (b ∷ bs) (suc i) d order below is =
        ap (λ t. cond t b.children (children_of k children bs)) (differs sources (bucket_key b) k (subst (λ j. T (is_lt (page_cmp sources (bucket_key b) j))) is (at (λ c. is_lt (page_cmp sources (bucket_key b) (bucket_key c))) bs i d (omega (arith, below)) order.0)))
        ∙ children-at bs i d order.1 (omega (arith, below)) is

pub page-with : (p : FirstPage) (k : Key) (children : List Node) → IsPage p → IsPage (page_with_children p k children)
page-with p k children page = page-same_keys p (with_children k children) (key-with k children) page
