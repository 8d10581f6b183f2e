-- One step of a path: where each shard has the whole group of a key, the nodes below the bucket of the whole are the wholes of
-- the answers to that group.
use Rattle.std.specs.Prelude.{◌≡◌, refl, ℕ, zero, suc, ◌+◌, ◌||◌, true, false, cond, T, List, [], ◌∷◌, ◌++◌, map, flat_map, sum_by, find, length, Some, option_map, slice_get}
use Rattle.std.specs.List.{AllByRecursion, list_all, cons_option}
use Rattle.std.specs.Option.{option_map_or}
use Rattle.std.proofs.Common.{sym, ◌∙◌, ap, subst, arith}
use Rattle.std.proofs.lemmas.Option.{slice_get-map}
use Rattle.std.proofs.lemmas.List.Sums.{sum_by-cons}
use Rattle.agg_model.specs.declared.mapping.Mapping.{Mapping}
use Rattle.agg_model.specs.declared.key.Key.{Key}
use Rattle.agg_model.specs.declared.partial.Bucket.{Bucket}
use Rattle.agg_model.specs.declared.partial.Node.{Node}
use Rattle.agg_model.specs.declared.aggregation.Agg.{Agg, Row_of-Agg, end_of-Agg, more_of-Agg}
use Rattle.agg_model.specs.declared.aggregation.Agg.TheOpen.{Agg-F}
use Rattle.agg_model.specs.declared.aggregation.Kind.{Kind}
use Rattle.agg_evaluation.specs.Folds.{fold_agg, fold_aggs}
use Rattle.agg_evaluation.specs.KeyOrder.{key_eq, has_key}
use Rattle.agg_evaluation.specs.Orders.{bucket_count, bucket_key}
use Rattle.agg_evaluation.specs.Rows.{PlacedRow, roots}
use Rattle.agg_evaluation.specs.Groups.{group, under}
use Rattle.agg_evaluation.specs.SearchFits.{Made, made_at, agg_fits}
use Rattle.agg_evaluation.specs.Shard.{Collector, collector_of, bucket_of, shard_node, with_covered}
use Rattle.agg_evaluation.specs.TrueCounts.{listed}
use Rattle.agg_evaluation.specs.Whole.{children_at, parts, whole_bucket, whole_by, whole_node, shape_of}
use Rattle.agg_evaluation.proofs.AloneLaws.{whole_node-alone}
use Rattle.agg_evaluation.proofs.KeyLists.{key_eq-exact}
use Rattle.agg_evaluation.proofs.TreeLaws.{collected-is_tree}
use Rattle.agg_evaluation.proofs.UnionLaws.{whole_node-unites}
use Rattle.agg_evaluation.proofs.WholeLaws.{Union, tree_buckets, with_key}
use Rattle.list_laws.proofs.Booleans.{and_left, and_right, holds}
use Rattle.list_laws.proofs.Lists.{joined, filter-flat_map, filter_map-append, flat_map-map, map-map, slice_get-enumerated, sum_by-flat_map}
use Rattle.list_laws.proofs.Options.{none_some}
use Rattle.count_laws.specs.TermsSums.{whole_of_rows}
use Rattle.count_laws.proofs.Nothing.{nothing}
use Rattle.count_laws.proofs.WholeGroups.{HasAll}

-- what is folded of an aggregation at a place
pub folded-at : {A : Type 0} (step : Agg-F A → A) {n : _} (children : Row_of-Agg n) (j : ℕ) (c : Agg) → slice_get (listed children) j ≡ Some c → slice_get (fold_aggs step children) j ≡ Some (fold_agg step c)
folded-at step end_of-Agg j c e = absurd (none_some c e)
folded-at step (more_of-Agg a rest) zero c e = ap (option_map (fold_agg step)) e
folded-at step (more_of-Agg a rest) (suc j) c e = folded-at step rest j c e

fits-at : (m : Mapping) (context : ℕ) {n : _} (children : Row_of-Agg n) (j : ℕ) (c : Agg) → T (list_all (λ (c : Made). c.fits false context) (fold_aggs (made_at m) children)) → slice_get (listed children) j ≡ Some c → T (agg_fits m false context c)
fits-at m context end_of-Agg j c h e = absurd (none_some c e)
fits-at m context (more_of-Agg a rest) zero c h e = subst (λ o. T (option_map_or (agg_fits m false context) o true)) e (and_left _ _ h)
fits-at m context (more_of-Agg a rest) (suc j) c h e = fits-at m context rest j c (and_right _ _ h) e

-- the bucket of a key among buckets of some keys
pub find-whole : (ws : List Union) (bs : List Bucket) (q : Key) (ks : List Key) → has_key q ks ≡ true → find (λ b. key_eq q (bucket_key b)) (map (whole_bucket ws bs) ks) ≡ Some (whole_bucket ws bs q)
find-whole ws bs q [] e = absurd (subst T (sym e) tt)
find-whole ws bs q (k ∷ ks) e =
    elim (key_eq q k) as (λ b. key_eq q k ≡ b → (b || has_key q ks) ≡ true → cond b (Some (whole_bucket ws bs k)) (find (λ b. key_eq q (bucket_key b)) (map (whole_bucket ws bs) ks)) ≡ Some (whole_bucket ws bs q)) [
      | true ↦ λ f g. ap (λ j. Some (whole_bucket ws bs j)) (sym (key_eq-exact q k (holds _ f)))
      | false ↦ λ f g. find-whole ws bs q ks g
    ] refl e

-- a shard as its rows, and those of them that an aggregation is handed
abbrev pub Handed : Type 0
Handed = List PlacedRow × List PlacedRow

-- the nodes are the wholes of the answers to what the shards are handed
abbrev pub Answer : List Agg → List Node → List Handed → Type 0
Answer aggs nodes handed = (j : ℕ) (a : Agg) → slice_get aggs j ≡ Some a → slice_get nodes j ≡ Some (whole_of_rows a handed)

module _ (m : Mapping) (context : ℕ) (k : Kind) {n : _} (children : Row_of-Agg n) (fit : T (list_all (λ (c : Made). c.fits false context) (fold_aggs (made_at m) children))) (q : Key) (tree : Handed → Node) where
  abbrev collectors : Handed → List Collector
  collectors s = fold_aggs (collector_of true s.0 (roots s.0)) children

  abbrev unions : List Union
  unions = fold_aggs (λ a. whole_by a.children a.kind (shape_of a.kind)) children

  abbrev counted : Handed → List PlacedRow
  counted s = under s.0 (roots s.0) k s.1

  abbrev pub HasWhole : Handed → Type 0
  HasWhole s = HasAll s.0 k (collectors s) (counted s) q (parts (tree s)).buckets

  abbrev group_of : Handed → List PlacedRow
  group_of s = group s.0 k (counted s) q

  abbrev found : List Handed → List Bucket
  found ss = flat_map (λ s. with_key q (parts (tree s)).buckets) ss

  module _ (j : ℕ) (c : Agg) (at : slice_get (listed children) j ≡ Some c) where
    abbrev answer : Handed → Node
    answer s = shard_node s.0 c (group_of s)

    abbrev lists : (ss : List Handed) → AllByRecursion HasWhole ss → List (List Node)
    lists [] h = []
    lists (s ∷ ss) h = cond h.0.present (answer s ∷ []) [] ∷ lists ss h.1

    child-of : (s : Handed) (e : ℕ) → slice_get (with_covered e (bucket_of true s.0 (roots s.0) k (collectors s) (counted s) q)).children j ≡ Some (answer s)
    child-of s e =
        slice_get-map (λ (c : Collector). c.collect (group_of s)) (collectors s) j
        ∙ ap (option_map (λ (c : Collector). c.collect (group_of s))) (folded-at (collector_of true s.0 (roots s.0)) children j c at)

    one : (s : Handed) (h : HasWhole s) → children_at (with_key q (parts (tree s)).buckets) j ≡ cond h.present (answer s ∷ []) []
    one s h =
        ap (λ bs. children_at bs j) h.found
        ∙ elim h.present as (λ p. children_at (cond p (with_covered h.covered (bucket_of true s.0 (roots s.0) k (collectors s) (counted s) q) ∷ []) []) j ≡ cond p (answer s ∷ []) []) [
          | true ↦ ap (λ o. cons_option o []) (child-of s h.covered)
          | false ↦ refl
        ]

    all-lists : (ss : List Handed) (h : AllByRecursion HasWhole ss) → children_at (found ss) j ≡ joined (lists ss h)
    all-lists [] h = refl
    all-lists (s ∷ ss) h = filter_map-append (λ b. slice_get b.children j) (with_key q (parts (tree s)).buckets) (found ss) ∙ (λ i. one s h.0 i ++ all-lists ss h.1 i)

    united : (s : Handed) (h : HasWhole s) → whole_node c (cond h.present (answer s ∷ []) []) ≡ answer s
    united s h =
        elim h.present as (λ p. h.present ≡ p → whole_node c (cond p (answer s ∷ []) []) ≡ answer s) [
          | true ↦ λ e. whole_node-alone c (answer s) (collected-is_tree true s.0 (roots s.0) c (group_of s))
          | false ↦ λ e. sym (nothing m s.0 c context (fits-at m context children j c fit at)) ∙ ap (shard_node s.0 c) (sym (h.none e))
        ] refl

    all-united : (ss : List Handed) (h : AllByRecursion HasWhole ss) → map (whole_node c) (lists ss h) ≡ map answer ss
    all-united [] h = refl
    all-united (s ∷ ss) h = λ i. united s h.0 i ∷ all-united ss h.1 i

    child-whole : (ss : List Handed) → AllByRecursion HasWhole ss → whole_node c (children_at (found ss) j) ≡ whole_of_rows c (map (λ s. (s.0, group_of s)) ss)
    child-whole ss h =
        ap (whole_node c) (all-lists ss h) ∙ sym (whole_node-unites c (lists ss h)) ∙ ap (whole_node c) (all-united ss h)
        ∙ ap (whole_node c) (sym (map-map (λ s. shard_node s.0 c s.1) (λ s. (s.0, group_of s)) ss))

  -- what stands below the bucket of the key
  pub below-bucket : (ss : List Handed) → AllByRecursion HasWhole ss → Answer (listed children) (whole_bucket unions (tree_buckets (map tree ss)) q).children (map (λ s. (s.0, group_of s)) ss)
  below-bucket ss h j c at =
      let same : with_key q (tree_buckets (map tree ss)) ≡ found ss =
      ap (with_key q) (flat_map-map tree (λ t. (parts t).buckets) ss) ∙ filter-flat_map (λ b. key_eq q (bucket_key b)) (λ s. (parts (tree s)).buckets) ss in
      slice_get-enumerated 0 unions (λ c. c.1 (children_at (with_key q (tree_buckets (map tree ss))) c.0)) j (whole_node c) (folded-at (λ a. whole_by a.children a.kind (shape_of a.kind)) children j c at)
      ∙ ap (λ i. Some (whole_node c (children_at (with_key q (tree_buckets (map tree ss))) i))) (let e : 0 + j ≡ j = omega arith in e)
      ∙ ap (λ bs. Some (whole_node c (children_at bs j))) same
      ∙ ap Some (child-whole j c at ss h)

  count-one : (s : Handed) (h : HasWhole s) → sum_by bucket_count (with_key q (parts (tree s)).buckets) ≡ length (group_of s)
  count-one s h =
      let whole = with_covered h.covered (bucket_of true s.0 (roots s.0) k (collectors s) (counted s) q) in
      ap (sum_by bucket_count) h.found
      ∙ elim h.present as (λ p. h.present ≡ p → sum_by bucket_count (cond p (whole ∷ []) []) ≡ length (group_of s)) [
        | true ↦ λ e. omega (arith, sum_by-cons bucket_count whole [])
        | false ↦ λ e. ap length (sym (h.none e))
      ] refl

  count-found : (ss : List Handed) → AllByRecursion HasWhole ss → sum_by (λ s. sum_by bucket_count (with_key q (parts (tree s)).buckets)) ss ≡ sum_by (λ s. length (group_of s)) ss
  count-found [] h = refl
  count-found (s ∷ ss) h =
      omega (arith, count-one s h.0, count-found ss h.1, sum_by-cons (λ s. sum_by bucket_count (with_key q (parts (tree s)).buckets)) s ss, sum_by-cons (λ s. length (group_of s)) s ss)

  -- the bucket of the key counts all rows that have it
  pub count-whole : (ss : List Handed) → AllByRecursion HasWhole ss → (whole_bucket unions (tree_buckets (map tree ss)) q).count ≡ sum_by (λ s. length (group_of s)) ss
  count-whole ss h =
      ap (λ bs. sum_by bucket_count (with_key q bs)) (flat_map-map tree (λ t. (parts t).buckets) ss)
      ∙ ap (sum_by bucket_count) (filter-flat_map (λ b. key_eq q (bucket_key b)) (λ s. (parts (tree s)).buckets) ss)
      ∙ sum_by-flat_map bucket_count (λ s. with_key q (parts (tree s)).buckets) ss
      ∙ count-found ss h
