-- Two lists of trees have one whole, whichever comes first.
use Rattle.std.specs.Prelude.{◌≡◌, ℕ, zero, suc, ◌+◌, ◌+ℤ◌, List, [], ◌∷◌, ◌++◌, map, filter_map, flat_map, sum_by, Some, slice_get}
use Rattle.std.specs.List.{reduce}
use Rattle.std.specs.Int.{int_min, int_max}
use Rattle.std.proofs.Common.{sym, ◌∙◌, ap, subst, arith}
use Rattle.std.proofs.lemmas.Int.{ints}
use Rattle.list_laws.proofs.Sums.{sum-swap}
use Rattle.list_laws.proofs.Booleans.{or_comm}
use Rattle.agg_model.specs.declared.key.Key.{Key}
use Rattle.agg_model.specs.declared.partial.Bucket.{Bucket}
use Rattle.agg_model.specs.declared.partial.Metric.{Metric}
use Rattle.agg_model.specs.declared.partial.Node.{Node}
use Rattle.agg_model.specs.declared.partial.Node.TheVariants.{Keyed, Fixed, Number}
use Rattle.agg_model.specs.declared.aggregation.Agg.{Agg, Agg', Row_of-Agg, end_of-Agg, more_of-Agg}
use Rattle.agg_model.specs.declared.aggregation.Kind.{Kind}
use Rattle.agg_evaluation.specs.Folds.{fold_aggs}
use Rattle.agg_evaluation.specs.KeyOrder.{key_eq, has_key}
use Rattle.agg_evaluation.specs.Keys.{distinct_keys}
use Rattle.agg_evaluation.specs.Orders.{bucket_key, bucket_count}
use Rattle.agg_evaluation.specs.Shard.{fixed_keys, int_sum}
use Rattle.agg_evaluation.specs.Whole.{parts, children_at, whole_bucket, whole_by, whole_node, shape_of, Shape, by_key, from_start, a_number, metric_sum}
use Rattle.agg_evaluation.proofs.KeyLists.{distinct_keys-same}
use Rattle.list_laws.proofs.Lists.{flat_map-append, map-append, filter-append, filter_map-append, enumerated}
use Rattle.agg_evaluation.proofs.MetricLaws.{reduce-append, join_comm, int_sum-append, min_assoc, min_comm, max_assoc, max_comm}
use Rattle.agg_evaluation.proofs.UnionLaws.{has_key-append}
use Rattle.agg_evaluation.proofs.WholeLaws.{Union, tree_buckets, with_key}
use Rattle.list_laws.proofs.Options.{none_some, some_same}

abbrev pub Swaps : Union → Type 0
Swaps w = (xs ys : List Node) → w (xs ++ ys) ≡ w (ys ++ xs)

abbrev pub EachSwaps : List Union → Type 0
EachSwaps [] = Unit {0}
EachSwaps (w ∷ ws) = Swaps w × EachSwaps ws

swaps-at : (ws : List Union) → EachSwaps ws → (j : ℕ) (w : Union) → slice_get ws j ≡ Some w → Swaps w
swaps-at [] laws j w e = none_some w e
swaps-at (v ∷ ws) laws zero w e = subst Swaps (some_same v w e) laws.0
swaps-at (v ∷ ws) laws (suc j) w e = swaps-at ws laws.1 j w e

module _ (cs : List Union) (laws : EachSwaps cs) (q : Key) (ds bs : List Bucket) where
  with_key-append : with_key q (ds ++ bs) ≡ with_key q ds ++ with_key q bs
  with_key-append = filter-append (λ b. key_eq q (bucket_key b)) ds bs

  with_key-append_back : with_key q (bs ++ ds) ≡ with_key q bs ++ with_key q ds
  with_key-append_back = filter-append (λ b. key_eq q (bucket_key b)) bs ds

  child-swap : (n : ℕ) (w : Union) → slice_get cs n ≡ Some w → w (children_at (with_key q (ds ++ bs)) n) ≡ w (children_at (with_key q (bs ++ ds)) n)
  child-swap n w at =
      ap w (ap (λ cs. children_at cs n) with_key-append ∙ filter_map-append (λ b. slice_get b.children n) (with_key q ds) (with_key q bs))
      ∙ swaps-at cs laws n w at (children_at (with_key q ds) n) (children_at (with_key q bs) n)
      ∙ ap w (sym (ap (λ cs. children_at cs n) with_key-append_back ∙ filter_map-append (λ b. slice_get b.children n) (with_key q bs) (with_key q ds)))

  bucket-swap : whole_bucket cs (ds ++ bs) q ≡ whole_bucket cs (bs ++ ds) q
  bucket-swap =
      let sums = λ (f : Bucket → ℕ). ap (sum_by f) with_key-append ∙ sum-swap f (with_key q ds) (with_key q bs) ∙ sym (ap (sum_by f) with_key-append_back) in
      let children = enumerated 0 cs (λ c. c.1 (children_at (with_key q (ds ++ bs)) c.0)) (λ c. c.1 (children_at (with_key q (bs ++ ds)) c.0))
      (λ j w at. subst (λ n. w (children_at (with_key q (ds ++ bs)) n) ≡ w (children_at (with_key q (bs ++ ds)) n)) (let e : j ≡ 0 + j = omega arith in e) (child-swap j w at)) in
      λ i. (record { key = q; count = sums bucket_count i; covered = sums (λ b. b.covered) i; children = children i })

keys-swap : (ds bs : List Bucket) → distinct_keys (map bucket_key (ds ++ bs)) ≡ distinct_keys (map bucket_key (bs ++ ds))
keys-swap ds bs = distinct_keys-same _ _ (λ q.
    ap (has_key q) (map-append bucket_key ds bs) ∙ has_key-append q (map bucket_key ds) (map bucket_key bs)
    ∙ or_comm (has_key q (map bucket_key ds)) (has_key q (map bucket_key bs))
    ∙ sym (ap (has_key q) (map-append bucket_key bs ds) ∙ has_key-append q (map bucket_key bs) (map bucket_key ds)))

metric-swap : (ms ns : List Metric) → metric_sum (ms ++ ns) ≡ metric_sum (ns ++ ms)
metric-swap ms ns =
    let counts = sum-swap (λ (m : Metric). m.count) ms ns in
    let plus : int_sum (map (λ m. m.sum) ms) +ℤ int_sum (map (λ m. m.sum) ns) ≡ int_sum (map (λ m. m.sum) ns) +ℤ int_sum (map (λ m. m.sum) ms) = omega (arith, ints) in
    let totals = ap int_sum (map-append (λ (m : Metric). m.sum) ms ns) ∙ int_sum-append (map (λ m. m.sum) ms) (map (λ m. m.sum) ns) ∙ plus
    ∙ sym (ap int_sum (map-append (λ (m : Metric). m.sum) ns ms) ∙ int_sum-append (map (λ m. m.sum) ns) (map (λ m. m.sum) ms)) in
    let least_of = λ (m : Metric). m.least in
    let greatest_of = λ (m : Metric). m.greatest in
    let least = ap (reduce int_min) (filter_map-append least_of ms ns) ∙ reduce-append int_min min_assoc (filter_map least_of ms) (filter_map least_of ns)
    ∙ join_comm int_min min_assoc min_comm (reduce int_min (filter_map least_of ms)) (reduce int_min (filter_map least_of ns))
    ∙ sym (ap (reduce int_min) (filter_map-append least_of ns ms) ∙ reduce-append int_min min_assoc (filter_map least_of ns) (filter_map least_of ms)) in
    let greatest = ap (reduce int_max) (filter_map-append greatest_of ms ns) ∙ reduce-append int_max max_assoc (filter_map greatest_of ms) (filter_map greatest_of ns)
    ∙ join_comm int_max max_assoc max_comm (reduce int_max (filter_map greatest_of ms)) (reduce int_max (filter_map greatest_of ns))
    ∙ sym (ap (reduce int_max) (filter_map-append greatest_of ns ms) ∙ reduce-append int_max max_assoc (filter_map greatest_of ns) (filter_map greatest_of ms)) in
    λ i. (record { count = counts i; sum = totals i; least = least i; greatest = greatest i })

swaps-by : (cs : List Union) → EachSwaps cs → (k : Kind) (shape : Shape) → Swaps (whole_by cs k shape)
swaps-by cs laws k by_key xs ys =
    let there = flat_map-append (λ (t : Node). (parts t).buckets) xs ys in
    let back = flat_map-append (λ (t : Node). (parts t).buckets) ys xs in
    let same : map (whole_bucket cs (tree_buckets xs ++ tree_buckets ys)) (distinct_keys (map bucket_key (tree_buckets xs ++ tree_buckets ys)))
    ≡ map (whole_bucket cs (tree_buckets ys ++ tree_buckets xs)) (distinct_keys (map bucket_key (tree_buckets ys ++ tree_buckets xs)))
    = (λ i. map (λ q. bucket-swap cs laws q (tree_buckets xs) (tree_buckets ys) i) (keys-swap (tree_buckets xs) (tree_buckets ys) i)) in
    let buckets = ap (λ bs. map (whole_bucket cs bs) (distinct_keys (map bucket_key bs))) there ∙ same ∙ sym (ap (λ bs. map (whole_bucket cs bs) (distinct_keys (map bucket_key bs))) back) in
    let errors = sum-swap (λ (t : Node). (parts t).error) xs ys in
    let fulls = sum-swap (λ (t : Node). (parts t).full) xs ys in
    let cuts = sum-swap (λ (t : Node). (parts t).cut) xs ys in
    λ i. Keyed (buckets i) (errors i) (fulls i) (cuts i)
swaps-by cs laws k from_start xs ys =
    ap (λ bs. Fixed (map (whole_bucket cs bs) (fixed_keys k))) (flat_map-append (λ (t : Node). (parts t).buckets) xs ys)
    ∙ (λ i. Fixed (map (λ q. bucket-swap cs laws q (tree_buckets xs) (tree_buckets ys) i) (fixed_keys k)))
    ∙ sym (ap (λ bs. Fixed (map (whole_bucket cs bs) (fixed_keys k))) (flat_map-append (λ (t : Node). (parts t).buckets) ys xs))
swaps-by cs laws k a_number xs ys =
    ap (λ ms. Number (metric_sum ms)) (flat_map-append (λ (t : Node). (parts t).metrics) xs ys)
    ∙ ap Number (metric-swap (flat_map (λ t. (parts t).metrics) xs) (flat_map (λ t. (parts t).metrics) ys))
    ∙ sym (ap (λ ms. Number (metric_sum ms)) (flat_map-append (λ (t : Node). (parts t).metrics) ys xs))

mutual
  pub whole_node-swaps : (a : Agg) → Swaps (whole_node a)
  whole_node-swaps (Agg' name k n children) = swaps-by _ (each-swaps children) k (shape_of k)

  each-swaps : {n : _} (children : Row_of-Agg n) → EachSwaps (fold_aggs (λ a. whole_by a.children a.kind (shape_of a.kind)) children)
  each-swaps end_of-Agg = tt
  each-swaps (more_of-Agg a rest) = (whole_node-swaps a, each-swaps rest)
