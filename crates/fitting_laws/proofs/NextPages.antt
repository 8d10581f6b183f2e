-- The last bucket's key of an answer to a composite has a part for each source, so that the next page's search is made too.
use Rattle.std.specs.Prelude.{◌≡◌, refl, ℕ, Bool, true, false, ◌&&◌, T, List, [], ◌∷◌, ◌++◌, map, filter_map, flat_map, take, length, slice_get, Option, Some, None, option_map, IfSome}
use Rattle.std.specs.List.{list_all, last_or}
use Rattle.std.proofs.Common.{sym, ◌∙◌, ap, subst}
use Rattle.std.proofs.lemmas.Bool.{false≢true}
use Rattle.agg_model.specs.declared.aggregation.Agg.{Agg, out-Agg}
use Rattle.agg_model.specs.declared.aggregation.CompositeSource.{CompositeSource}
use Rattle.agg_model.specs.declared.aggregation.Kind.{Kind}
use Rattle.agg_model.specs.declared.aggregation.Kind.TheVariants as kind
use Rattle.agg_model.specs.declared.aggregation.Search.{Search}
use Rattle.agg_model.specs.declared.answer.BucketAnswer.{BucketAnswer, out-BucketAnswer, out-roll-BucketAnswer}
use Rattle.agg_model.specs.declared.answer.NodeAnswer.{NodeAnswer, out-roll-NodeAnswer}
use Rattle.agg_model.specs.declared.key.Key.{Key}
use Rattle.agg_model.specs.declared.partial.Bucket.{Bucket}
use Rattle.agg_model.specs.declared.partial.Node.{Node}
use Rattle.agg_model.specs.declared.partial.Partial.{Partial}
use Rattle.agg_evaluation.specs.CompositeKeys.{is_composite_of}
use Rattle.agg_evaluation.specs.Folds.{fold_agg}
use Rattle.agg_evaluation.specs.Groups.{under, all_keys}
use Rattle.agg_evaluation.specs.Keys.{keys, distinct_keys}
use Rattle.agg_evaluation.specs.Matching.{matched_roots}
use Rattle.agg_evaluation.specs.Orders.{bucket_key, composite_cmp}
use Rattle.agg_evaluation.specs.Rows.{PlacedRow, roots}
use Rattle.agg_evaluation.specs.SearchFits.{search_fits}
use Rattle.agg_evaluation.specs.Shard.{Collector, page, bucket_of, node_of, collector_of, shard_node, shard_answer}
use Rattle.agg_evaluation.specs.Whole.{Parts, parts, parts_at, whole_bucket, whole_by, whole_node, whole, shape_of, by_key}
use Rattle.agg_spec.specs.Final.{final, Finisher, finish_at, finish_bucket, finisher_of, finisher}
use Rattle.agg_spec.specs.Index.{Index, rows_in}
use Rattle.agg_spec.specs.Outcome.{answer_of}
use Rattle.agg_spec.specs.Pages.{is_composite, is_paged, last_key, next_search, search_after}
use Rattle.list_laws.specs.Sorting.{sorted}
use Rattle.list_laws.proofs.Lists.{map-map}
use Rattle.agg_evaluation.proofs.AggFolds.{fold_agg-level}
use Rattle.agg_evaluation.proofs.NodeForms.{out-Keyed}
use Rattle.agg_evaluation.proofs.WholeLaws.{Union, tree_buckets}
use Rattle.list_laws.proofs.Booleans.{and_left, and_right, both, true_is}
use Rattle.list_laws.proofs.Occurrences.{all-sorted, all-take}
use Rattle.fitting_laws.specs.Pages.{takes, search_takes}
use Rattle.fitting_laws.proofs.BucketKeys.{distinct_all, composite_rows}
use Rattle.fitting_laws.proofs.OwnShards.{page_all}
use Rattle.fitting_laws.proofs.Pages.{search_next}

module _ (n : ℕ) where
  abbrev has_own : Bucket → Bool
  has_own b = is_composite_of n (bucket_key b)

  -- buckets of keys
  made_all : (f : Key → Bucket) → ((q : Key) → bucket_key (f q) ≡ q) → (ks : List Key) → T (list_all (is_composite_of n) ks) → T (list_all has_own (map f ks))
  made_all f same [] h = tt
  made_all f same (q ∷ ks) h =
      both (has_own (f q)) _ (subst (λ k. T (is_composite_of n k)) (sym (same q)) (and_left (is_composite_of n q) (list_all (is_composite_of n) ks) h)) (made_all f same ks (and_right (is_composite_of n q) (list_all (is_composite_of n) ks) h))

  keys_all : (bs : List Bucket) → T (list_all has_own bs) → T (list_all (is_composite_of n) (map bucket_key bs))
  keys_all [] h = tt
  keys_all (b ∷ bs) h = both (has_own b) _ (and_left (has_own b) (list_all has_own bs) h) (keys_all bs (and_right (has_own b) (list_all has_own bs) h))

  joined_all : (bs cs : List Bucket) → T (list_all has_own bs) → T (list_all has_own cs) → T (list_all has_own (bs ++ cs))
  joined_all [] cs h g = g
  joined_all (b ∷ bs) cs h g = both (has_own b) _ (and_left (has_own b) (list_all has_own bs) h) (joined_all bs cs (and_right (has_own b) (list_all has_own bs) h) g)

  trees_all : (xs : List Node) → T (list_all (λ x. list_all has_own (parts x).buckets) xs) → T (list_all has_own (tree_buckets xs))
  trees_all [] h = tt
  trees_all (x ∷ xs) h = joined_all (parts x).buckets (tree_buckets xs) (and_left (list_all has_own (parts x).buckets) (list_all (λ x. list_all has_own (parts x).buckets) xs) h) (trees_all xs (and_right (list_all has_own (parts x).buckets) (list_all (λ x. list_all has_own (parts x).buckets) xs) h))

  whole_all : (ws : List Union) (k : Kind) (xs : List Node) → T (list_all (λ x. list_all has_own (parts x).buckets) xs) → T (list_all has_own (parts (whole_by ws k by_key xs)).buckets)
  whole_all ws k xs h =
      let bs = tree_buckets xs in
      let ks = distinct_keys (map bucket_key bs) in
      subst (λ (p : Parts). T (list_all has_own p.buckets)) (sym (ap parts_at (out-Keyed (map (whole_bucket ws bs) ks) _ _ _)))
      (made_all (whole_bucket ws bs) (λ q. refl) ks (distinct_all (is_composite_of n) (map bucket_key bs) (keys_all bs (trees_all xs h))))

  -- the last of some buckets of an answer
  last_all : (children : List Finisher) (bs : List Bucket) → T (list_all has_own bs) → (o : Option BucketAnswer) → IfSome (option_map (λ (b : BucketAnswer). (out-BucketAnswer b).key) o) (λ key. T (is_composite_of n key))
      → IfSome (option_map (λ (b : BucketAnswer). (out-BucketAnswer b).key) (last_or o (map (finish_bucket children None) bs))) (λ key. T (is_composite_of n key))
  last_all children [] h o g = g
  last_all children (b ∷ bs) h o g =
      last_all children bs (and_right (has_own b) (list_all has_own bs) h) (Some (finish_bucket children None b))
      (subst (λ (k : Key). T (is_composite_of n k)) (sym (ap (λ x. x.key) (out-roll-BucketAnswer _))) (and_left (has_own b) (list_all has_own bs) h))

module _ (sources : List CompositeSource) (size : ℕ) (after : Option Key) where
  abbrev own_kind : Kind
  own_kind = kind.Composite sources size after

  -- one shard
  shard_all : (all : List PlacedRow) (cs : List Collector) (rows : List PlacedRow) → T (list_all (has_own (length sources)) (parts (node_of true all (roots all) cs own_kind rows)).buckets)
  shard_all all cs rows =
      let ks = page sources size after (all_keys all own_kind rows) in
      subst (λ (p : Parts). T (list_all (has_own (length sources)) p.buckets)) (sym (ap parts_at (out-Keyed (map (bucket_of true all (roots all) own_kind cs rows) ks) 0 0 0)))
      (made_all (length sources) (bucket_of true all (roots all) own_kind cs rows) (λ q. refl) ks (page_all (is_composite_of (length sources)) sources size after (all_keys all own_kind rows)
      (distinct_all (is_composite_of (length sources)) (flat_map (keys all own_kind) rows) (composite_rows sources rows))))

  -- the answer
  answer_all : (name : List ℕ) (children : List Finisher) (p : Parts) → T (list_all (has_own (length sources)) p.buckets) → IfSome (last_key (finish_at name children own_kind p ∷ [])) (λ key. T (is_composite_of (length sources) key))
  answer_all name children p h =
      let cmp = λ (a b : Bucket). composite_cmp sources (bucket_key a) (bucket_key b) in
      let bs = take size (sorted cmp p.buckets) in
      subst (λ (buckets : List BucketAnswer). IfSome (option_map (λ (b : BucketAnswer). (out-BucketAnswer b).key) (last_or None buckets)) (λ key. T (is_composite_of (length sources) key)))
      (sym (ap (λ x. x.buckets) (out-roll-NodeAnswer _)))
      (last_all (length sources) children bs (all-take (has_own (length sources)) size (sorted cmp p.buckets) (all-sorted cmp (has_own (length sources)) p.buckets h)) None tt)

-- what is asked of a key by an aggregation of this kind, wherever it is answered by these finishers over these collectors
module _ (a : Agg) where
  abbrev collectors : List PlacedRow → List Collector
  collectors all = map (fold_agg (collector_of true all (roots all))) (out-Agg a).children

  -- each shard's tree, the whole and the answer, by the kind
  of_kind : (k : Kind) → is_composite k ≡ true → (shards : List (List PlacedRow)) (rows : List PlacedRow → List PlacedRow) (ws : List Union) (name : List ℕ) (children : List Finisher)
      → IfSome (last_key (finish_at name children k (parts (whole_by ws k (shape_of k) (map (λ all. node_of true all (roots all) (collectors all) k (under all (roots all) k (rows all))) shards))) ∷ [])) (λ key. T (takes key k))
  of_kind (kind.Composite sources size after) e shards rows ws name children =
      let k = kind.Composite sources size after in
      let tree = λ (all : List PlacedRow). node_of true all (roots all) (collectors all) k (under all (roots all) k (rows all)) in
      answer_of_all sources size after name children ws (map tree shards) (each sources size after shards)
    where
      each : (sources : List CompositeSource) (size : ℕ) (after : Option Key) (shards : List (List PlacedRow))
          → T (list_all (λ x. list_all (has_own (length sources)) (parts x).buckets) (map (λ all. node_of true all (roots all) (collectors all) (kind.Composite sources size after) (rows all)) shards))
      each sources size after [] = tt
      each sources size after (all ∷ shards) = both _ _ (shard_all sources size after all (collectors all) (rows all)) (each sources size after shards)

      answer_of_all : (sources : List CompositeSource) (size : ℕ) (after : Option Key) (name : List ℕ) (children : List Finisher) (ws : List Union) (xs : List Node)
          → T (list_all (λ x. list_all (has_own (length sources)) (parts x).buckets) xs)
          → IfSome (last_key (finish_at name children (kind.Composite sources size after) (parts (whole_by ws (kind.Composite sources size after) by_key xs)) ∷ [])) (λ key. T (is_composite_of (length sources) key))
      answer_of_all sources size after name children ws xs h =
          answer_all sources size after name children (parts (whole_by ws (kind.Composite sources size after) by_key xs)) (whole_all (length sources) ws (kind.Composite sources size after) xs h)
  of_kind (kind.Terms a b c d n f g h i) e shards rows ws name children = absurd (false≢true e)
  of_kind (kind.Histogram a b c d n f g h i) e shards rows ws name children = absurd (false≢true e)
  of_kind (kind.DateHistogram a b c d n f g h i) e shards rows ws name children = absurd (false≢true e)
  of_kind (kind.Filters a b c) e shards rows ws name children = absurd (false≢true e)
  of_kind (kind.Filter a) e shards rows ws name children = absurd (false≢true e)
  of_kind (kind.Missing a) e shards rows ws name children = absurd (false≢true e)
  of_kind kind.Global e shards rows ws name children = absurd (false≢true e)
  of_kind (kind.Nested a) e shards rows ws name children = absurd (false≢true e)
  of_kind (kind.ReverseNested a) e shards rows ws name children = absurd (false≢true e)
  of_kind (kind.Sum a b) e shards rows ws name children = absurd (false≢true e)
  of_kind (kind.Min a b) e shards rows ws name children = absurd (false≢true e)
  of_kind (kind.Max a b) e shards rows ws name children = absurd (false≢true e)
  of_kind (kind.Avg a b) e shards rows ws name children = absurd (false≢true e)
  of_kind (kind.ValueCount a b) e shards rows ws name children = absurd (false≢true e)

  -- the levels of the aggregation, in the place of its folds
  of_agg : is_composite (out-Agg a).kind ≡ true → (shards : List (List PlacedRow)) (rows : List PlacedRow → List PlacedRow)
      → IfSome (last_key ((finisher a).finish (whole_node a (map (λ all. shard_node all a (rows all)) shards)) ∷ [])) (λ key. T (takes key (out-Agg a).kind))
  of_agg e shards rows =
      let k = (out-Agg a).kind in
      let node : (all : List PlacedRow) → shard_node all a (rows all) ≡ node_of true all (roots all) (collectors all) k (under all (roots all) k (rows all)) = (λ all. ap (λ (c : Collector). c.collect (rows all)) (fold_agg-level (collector_of true all (roots all)) a)) in
      let trees : map (λ (all : List PlacedRow). shard_node all a (rows all)) shards ≡ map (λ (all : List PlacedRow). node_of true all (roots all) (collectors all) k (under all (roots all) k (rows all))) shards = (λ i. map (λ (all : List PlacedRow). node all i) shards) in
      let whole_is = (λ (xs : List Node). ap (λ (w : Union). w xs) (fold_agg-level (λ a. whole_by a.children a.kind (shape_of a.kind)) a)) in
      let finish_is = (λ (x : Node). ap (λ (f : Finisher). f.finish x) (fold_agg-level finisher_of a)) in
      subst (λ (n : NodeAnswer). IfSome (last_key (n ∷ [])) (λ key. T (takes key k)))
      (sym (ap (λ (xs : List Node). (finisher a).finish (whole_node a xs)) trees ∙ ap (λ (x : Node). (finisher a).finish x) (whole_is _) ∙ finish_is _))
      (of_kind k e shards rows (map whole_node (out-Agg a).children) (out-Agg a).name (map finisher (out-Agg a).children))

-- the first aggregation's trees of shards that answer to a list of aggregations
first_trees : (hits : List PlacedRow → ℕ) (a : Agg) (rest : List Agg) (rows : List PlacedRow → List PlacedRow) (shards : List (List PlacedRow))
    → filter_map (λ (t : Partial). slice_get t.nodes 0) (map (λ (all : List PlacedRow). record { hits = hits all; nodes = map (λ a. shard_node all a (rows all)) (a ∷ rest) }) shards) ≡ map (λ (all : List PlacedRow). shard_node all a (rows all)) shards
first_trees hits a rest rows [] = refl
first_trees hits a rest rows (all ∷ shards) = ap (λ (xs : List Node). shard_node all a (rows all) ∷ xs) (first_trees hits a rest rows shards)

-- a search of these aggregations, over these shards
paged_takes : (s : Search) (aggs : List Agg) → is_paged aggs ≡ true → (shards : List (List PlacedRow))
    → IfSome (last_key (final (record s { aggs = aggs }) (whole (record s { aggs = aggs }) (map (shard_answer (record s { aggs = aggs })) shards))).nodes) (λ key. T (list_all (λ a. takes key (out-Agg a).kind) aggs))
paged_takes s [] e shards = absurd (false≢true e)
paged_takes s (a ∷ b ∷ rest) e shards = absurd (false≢true e)
paged_takes s (a ∷ []) e shards =
    let rows = λ (all : List PlacedRow). matched_roots all s.query in
    let trees = first_trees (λ all. length (rows all)) a [] rows shards in
    subst (λ (xs : List Node). IfSome (last_key ((finisher a).finish (whole_node a xs) ∷ [])) (λ key. T (takes key (out-Agg a).kind && true))) (sym trees)
    (single (last_key ((finisher a).finish (whole_node a (map (λ (all : List PlacedRow). shard_node all a (rows all)) shards)) ∷ [])) (of_agg a e shards rows))
  where
    single : (o : Option Key) → IfSome o (λ key. T (takes key (out-Agg a).kind)) → IfSome o (λ key. T (takes key (out-Agg a).kind && true))
    single None h = h
    single (Some key) h = both _ _ h tt

-- the next page of any shards of an index
pub next_fits : (index : Index) (shards : List ℕ) (s : Search) → search_fits index.mapping s ≡ true
    → IfSome (next_search index shards (is_paged s.aggs) s) (λ next. search_fits index.mapping next ≡ true)
next_fits index shards s h =
    elim (is_paged s.aggs) as (λ b. is_paged s.aggs ≡ b → IfSome (next_search index shards b s) (λ next. search_fits index.mapping next ≡ true)) [
      | true ↦ λ e. behind (last_key (answer_of index s shards).nodes)
          (subst (λ (ps : List Partial). IfSome (last_key (final s (whole s ps)).nodes) (λ key. T (search_takes key s))) (map-map (shard_answer s) (rows_in index) shards)
          (paged_takes s s.aggs e (map (rows_in index) shards)))
      | false ↦ λ e. tt
    ] refl
  where
    behind : (o : Option Key) → IfSome o (λ key. T (search_takes key s)) → IfSome (option_map (search_after s) o) (λ next. search_fits index.mapping next ≡ true)
    behind None g = tt
    behind (Some key) g = search_next index.mapping key s (true_is (search_takes key s) g) h
