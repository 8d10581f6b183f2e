-- A page as what a shard answers, and what one row makes of it.
use Rattle.std.specs.Prelude.{◌≡◌, refl, true, false, ◌||◌, if◌then◌else◌, T, List, [], ◌∷◌, ◌+◌, length, map, sum_by}
use Rattle.std.specs.List.{list_all}
use Rattle.std.specs.Ordering.{is_le}
use Rattle.std.proofs.Common.{sym, ◌∙◌, ap}
use Rattle.std.proofs.lemmas.Bool.{false≢true}
use Rattle.std.proofs.Math.Bool.{or-true}
use Rattle.agg_model.specs.declared.aggregation.Agg.{Agg, out-Agg}
use Rattle.agg_model.specs.declared.aggregation.Kind.{Kind}
use Rattle.agg_model.specs.declared.aggregation.Kind.TheVariants as kind
use Rattle.agg_model.specs.declared.key.Key.{Key}
use Rattle.agg_model.specs.declared.partial.Bucket.{Bucket}
use Rattle.agg_model.specs.declared.partial.Node.TheOpen.{Node-F}
use Rattle.agg_model.specs.declared.partial.Node.TheVariants.{Keyed}
use Rattle.agg_evaluation.specs.CompositeKeys.{is_composite_of}
use Rattle.agg_evaluation.specs.Cost.{node_cost}
use Rattle.agg_evaluation.specs.Folds.{fold_agg}
use Rattle.agg_evaluation.specs.Groups.{group}
use Rattle.agg_evaluation.specs.KeyOrder.{has_key, key_cmp, key_eq}
use Rattle.agg_evaluation.specs.Keys.{keys}
use Rattle.agg_evaluation.specs.Orders.{bucket_key}
use Rattle.agg_evaluation.specs.Rows.{PlacedRow}
use Rattle.agg_evaluation.specs.Shard.{sorted_by_key}
use Rattle.agg_evaluation.proofs.AggFolds.{fold_agg-level}
use Rattle.agg_evaluation.proofs.KeyLists.{key_eq-self}
use Rattle.agg_evaluation.proofs.NodeForms.{out-Keyed}
use Rattle.composite_agg.specs.FirstPages.{is_composite}
use Rattle.composite_agg.specs.Sources.{IsComposite}
use Rattle.evaluation_laws.proofs.CostLaws.{cost-Keyed}
use Rattle.growth_laws.specs.BucketBytes.{bucket_bytes}
use Rattle.growth_laws.specs.Cutting.{Cutter, cut_at, cut_bucket, cut_tree, cutter_at}
use Rattle.growth_laws.specs.Gathering.{Gatherer, counted, gathered_node, gatherer_at, gatherer_of, kept_buckets, put_groups, put_rows}
use Rattle.growth_laws.proofs.Combinations.{composite-parts}
use Rattle.growth_laws.proofs.Gathering.{group-one, keys-one}
use Rattle.list_laws.specs.Sorting.{insert_sorted}
use Rattle.list_laws.proofs.Sums.{sum_by-sorted}
use Rattle.growing_page.specs.GrowingPages.{sources_of}

-- ---- the end

cut-put : (cs : List Cutter) (b : Bucket) (bs : List Bucket)
    → map (cut_bucket cs) (insert_sorted (λ a b. key_cmp (bucket_key a) (bucket_key b)) b bs) ≡ insert_sorted (λ a b. key_cmp (bucket_key a) (bucket_key b)) (cut_bucket cs b) (map (cut_bucket cs) bs)
cut-put cs b [] = refl
cut-put cs b (d ∷ bs) =
    elim (is_le (key_cmp (bucket_key b) (bucket_key d))) as (λ c. map (cut_bucket cs) (if c then b ∷ d ∷ bs else (d ∷ insert_sorted (λ a b. key_cmp (bucket_key a) (bucket_key b)) b bs))
    ≡ (if c then cut_bucket cs b ∷ cut_bucket cs d ∷ map (cut_bucket cs) bs else (cut_bucket cs d ∷ insert_sorted (λ a b. key_cmp (bucket_key a) (bucket_key b)) (cut_bucket cs b) (map (cut_bucket cs) bs)))) [
      | true ↦ refl
      | false ↦ ap (λ xs. cut_bucket cs d ∷ xs) (cut-put cs b bs)
    ]

-- buckets may be cut before they are sorted
pub cut-sorted : (cs : List Cutter) (bs : List Bucket) → map (cut_bucket cs) (sorted_by_key bs) ≡ sorted_by_key (map (cut_bucket cs) bs)
cut-sorted cs [] = refl
cut-sorted cs (b ∷ bs) = cut-put cs b (sorted_by_key bs) ∙ ap (insert_sorted (λ a b. key_cmp (bucket_key a) (bucket_key b)) (cut_bucket cs b)) (cut-sorted cs bs)

cut-keyed : (cs : List Cutter) (k : Kind) → is_composite k ≡ true → (bs : List Bucket) → cut_at cs k (Node-F.Keyed bs 0 0 0) ≡ Keyed (map (cut_bucket cs) bs) 0 0 0
cut-keyed cs (kind.Composite sources size after) e bs = refl
cut-keyed cs _ e bs = absurd (false≢true e)

pub cut-page : (a : Agg) → is_composite (out-Agg a).kind ≡ true → (bs : List Bucket) → cut_tree a (Keyed bs 0 0 0) ≡ Keyed (map (cut_bucket (map (fold_agg cutter_at) (out-Agg a).children)) bs) 0 0 0
cut-page a e bs =
    ap (λ (c : Cutter). c.cut (Keyed bs 0 0 0)) (fold_agg-level cutter_at a)
    ∙ ap (cut_at (map (fold_agg cutter_at) (out-Agg a).children) (out-Agg a).kind) (out-Keyed bs 0 0 0)
    ∙ cut-keyed (map (fold_agg cutter_at) (out-Agg a).children) (out-Agg a).kind e bs

-- ---- one row

-- the same rows for each of the keys
groups-same : (f g : Key → List PlacedRow) (gs : List Gatherer) (k : Kind) (ks : List Key) (bs : List Bucket) → ((q : Key) → has_key q ks ≡ true → f q ≡ g q) → put_groups f gs k ks bs ≡ put_groups g gs k ks bs
groups-same f g gs k [] bs same = refl
groups-same f g gs k (j ∷ ks) bs same =
    ap (λ rs. put_groups f gs k ks (kept_buckets k (put_rows gs rs j bs))) (same j (ap (λ b. b || has_key j ks) (key_eq-self j)))
    ∙ groups-same f g gs k ks (kept_buckets k (put_rows gs (g j) j bs)) (λ q e. same q (ap (λ b. key_eq q j || b) e ∙ or-true (key_eq q j)))

-- one row at its own keys is one row that is counted
pub counted-row : (all : List PlacedRow) (a : Agg) (row : PlacedRow) (bs : List Bucket)
    → Keyed (put_groups (λ q. row ∷ []) (map (gatherer_of all) (out-Agg a).children) (out-Agg a).kind (keys all (out-Agg a).kind row) bs) 0 0 0 ≡ counted all a (row ∷ []) (Keyed bs 0 0 0)
counted-row all a row bs =
    let k = (out-Agg a).kind in
    let gs = map (gatherer_of all) (out-Agg a).children in
    ap (λ xs. Keyed xs 0 0 0)
    (groups-same (λ q. row ∷ []) (group all k (row ∷ [])) gs k (keys all k row) bs (λ q e. sym (group-one all k row q e))
    ∙ ap (λ ks. put_groups (group all k (row ∷ [])) gs k ks bs) (sym (keys-one all k row)))
    ∙ sym (ap (λ (g : Gatherer). g.count (row ∷ []) (Keyed bs 0 0 0)) (fold_agg-level (gatherer_at all) a)
    ∙ ap (gathered_node all gs k (row ∷ [])) (out-Keyed bs 0 0 0))

-- ---- composites

pub composite-is : (k : Kind) → IsComposite k → is_composite k ≡ true
composite-is (kind.Composite sources size after) h = refl
composite-is _ h = absurd h

pub row-parts : (all : List PlacedRow) (k : Kind) → is_composite k ≡ true → (row : PlacedRow) → T (list_all (is_composite_of (length (sources_of k))) (keys all k row))
row-parts all (kind.Composite sources size after) e row = composite-parts sources row
row-parts all _ e row = absurd (false≢true e)

-- ---- the cost of a page

pub page-cost : (bs : List Bucket) → node_cost (Keyed (sorted_by_key bs) 0 0 0) ≡ 512 + sum_by bucket_bytes bs
page-cost bs = cost-Keyed (sorted_by_key bs) 0 0 0 ∙ ap (λ n. 512 + n) (sum_by-sorted bucket_bytes (λ a b. key_cmp (bucket_key a) (bucket_key b)) bs)
