-- The tree of some rows and more, which lie in later documents, is the tree of these rows gathered with the others: for every
-- kind of aggregation.
use Rattle.std.specs.Prelude.{◌≡◌, refl, ℕ, Bool, true, false, not, ◌||◌, ◌++◌, T, List, [], ◌∷◌, flat_map, map, Option}
use Rattle.std.specs.List.{list_all}
use Rattle.std.proofs.Common.{sym, ◌∙◌, ap, subst, append_assoc}
use Rattle.agg_model.specs.declared.aggregation.Agg.{Agg, Agg', Row_of-Agg, end_of-Agg, more_of-Agg, out-Agg}
use Rattle.agg_model.specs.declared.aggregation.Kind.{Kind}
use Rattle.agg_model.specs.declared.aggregation.Kind.TheVariants as kind
use Rattle.agg_model.specs.declared.key.Key.{Key}
use Rattle.agg_model.specs.declared.key.Key.TheVariants as key
use Rattle.agg_model.specs.declared.partial.Bucket.{Bucket}
use Rattle.agg_model.specs.declared.partial.Metric.{Metric}
use Rattle.agg_model.specs.declared.partial.Node.{out-Node}
use Rattle.agg_model.specs.declared.partial.Node.TheVariants.{Keyed, Fixed, Number}
use Rattle.agg_model.specs.declared.row.Scalar.{Scalar}
use Rattle.agg_evaluation.specs.Folds.{fold_aggs}
use Rattle.agg_evaluation.specs.Groups.{all_keys, group, under}
use Rattle.agg_evaluation.specs.KeyOrder.{has_key}
use Rattle.agg_evaluation.specs.Keys.{keys, single_key, values_or}
use Rattle.agg_evaluation.specs.Matching.{matches}
use Rattle.agg_evaluation.specs.Placement.{is_placed, is_placed_at}
use Rattle.agg_evaluation.specs.Rows.{PlacedRow, beneath}
use Rattle.agg_evaluation.specs.Shard.{Collector, bucket_of, collected_node, collector_of, fixed_keys, metric_of, node_of, page}
use Rattle.agg_evaluation.specs.Trace.{is_global}
use Rattle.agg_evaluation.specs.Trees.{is_ascending}
use Rattle.agg_evaluation.specs.Whole.{empty_by, empty_node, shape_of}
use Rattle.agg_evaluation.proofs.BeginLaws.{collected-begins}
use Rattle.agg_evaluation.proofs.KeyLists.{ascending-distinct_keys, has_key-distinct_keys, same_keys}
use Rattle.agg_evaluation.proofs.NodeForms.{out-Fixed, out-Keyed, out-Number}
use Rattle.agg_evaluation.proofs.UnionLaws.{ascending-fixed_keys, has_key-append}
use Rattle.list_laws.proofs.Booleans.{and_left, and_right}
use Rattle.list_laws.proofs.Lists.{append-nil, flat_map-append}
use Rattle.growth_laws.specs.Documents.{IsCutAt, lie_before, lie_behind, lies_before, lies_behind}
use Rattle.growth_laws.specs.Gathering.{Gatherer, counted, gathered, gathered_metric, gathered_node, gatherer_at, gatherer_of, kept_buckets}
use Rattle.growth_laws.specs.Growth.{metric_with, with_values}
use Rattle.growth_laws.proofs.DocumentRows.{all-filter, beneath-before, beneath-behind, enclosing-apart, enclosing-before, enclosing-behind}
use Rattle.agg_evaluation.proofs.Computing.{computing}
use Rattle.growth_laws.proofs.Built.{collectors-same, node-same}
use Rattle.growth_laws.proofs.FilterKeys.{filters-among}
use Rattle.growth_laws.proofs.Gathering.{Gathers, bucket_at, group-more, keys-more, no_rows, put-groups}
use Rattle.growth_laws.proofs.InsertedKeys.{ascending-insert_all, has_key-insert_all, insert_all}
use Rattle.growth_laws.proofs.Metrics.{metric-append}
use Rattle.growth_laws.proofs.PageBuckets.{put-page-groups}
use Rattle.growth_laws.proofs.PageKeys.{all-keys}
use Rattle.std.proofs.Math.Bool.{or-true}

module _ (n : ℕ) (all : List PlacedRow) (cut : IsCutAt n all) where
  -- rows of the first documents
  abbrev First : List PlacedRow → Type 0
  First rows = T (lie_before n rows)

  -- rows of the others
  abbrev Then : List PlacedRow → Type 0
  Then rows = T (lie_behind n rows)

  module _ (gs : List Gatherer) (cs : List Collector) (gathers : Gathers First Then gs cs) (roots : List PlacedRow) where
    -- the buckets of the keys, each with its rows
    abbrev at : (Key → List PlacedRow) → Key → Bucket
    at = bucket_at First Then gs cs gathers

    -- the rows of a key lie where the rows lie
    of_group : (k : Kind) (rows : List PlacedRow) → First rows → (q : Key) → First (group all k rows q)
    of_group k rows f q = all-filter (lies_before n) (λ row. has_key q (keys all k row)) rows f

    -- and so for the other documents
    of_later : (k : Kind) (more : List PlacedRow) → Then more → (q : Key) → Then (group all k more q)
    of_later k more t q = all-filter (lies_behind n) (λ row. has_key q (keys all k row)) more t

    -- buckets that come by key
    keyed : (k : Kind) → ((bs : List Bucket) → kept_buckets k bs ≡ bs) → (rows more : List PlacedRow) → First rows → Then more
        → Keyed (map (bucket_of false all roots k cs (rows ++ more)) (all_keys all k (rows ++ more))) 0 0 0
        ≡ gathered_node all gs k more (out-Node (Keyed (map (bucket_of false all roots k cs rows) (all_keys all k rows)) 0 0 0))
    keyed k keeps rows more f t =
        ap (λ bs. Keyed bs 0 0 0) (
        (λ i. map (at (λ q. sym (group-more all k rows more q) i)) (keys-more all k rows more i))
        ∙ sym (put-groups First Then gs cs gathers k keeps (group all k more) (of_later k more t) (all_keys all k more) (group all k rows) (all_keys all k rows)
        (ascending-distinct_keys (flat_map (keys all k) more)) (ascending-distinct_keys (flat_map (keys all k) rows)) (λ q e. of_group k rows f q) (no_rows all k rows more rows)))
        ∙ ap (gathered_node all gs k more) (sym (out-Keyed _ 0 0 0))

    -- buckets that exist from the start, which have all keys of rows
    fixed : (k : Kind) → ((bs : List Bucket) → kept_buckets k bs ≡ bs) → (ks : List Key) → T (is_ascending ks) → ((q : Key) (r : PlacedRow) → has_key q ks ≡ false → has_key q (keys all k r) ≡ false)
        → (rows more : List PlacedRow) → First rows → Then more → Fixed (map (bucket_of false all roots k cs (rows ++ more)) ks) ≡ gathered_node all gs k more (out-Node (Fixed (map (bucket_of false all roots k cs rows) ks)))
    fixed k keeps ks up among rows more f t =
        ap Fixed (
        (λ i. map (at (λ q. sym (group-more all k rows more q) i)) (sym same i))
        ∙ sym (put-groups First Then gs cs gathers k keeps (group all k more) (of_later k more t) (all_keys all k more) (group all k rows) ks
        (ascending-distinct_keys (flat_map (keys all k) more)) up (λ q e. of_group k rows f q) (λ q e. no_rows all k rows more rows q (none_among q e rows))))
        ∙ ap (gathered_node all gs k more) (sym (out-Fixed _))
      where
        none_of : (q : Key) → has_key q ks ≡ false → (rows : List PlacedRow) → has_key q (flat_map (keys all k) rows) ≡ false
        none_of q e [] = refl
        none_of q e (r ∷ rows) = has_key-append q (keys all k r) (flat_map (keys all k) rows) ∙ (λ i. among q r e i || none_of q e rows i)

        none_among : (q : Key) → has_key q ks ≡ false → (rows : List PlacedRow) → has_key q (all_keys all k rows) ≡ false
        none_among q e rows = has_key-distinct_keys q (flat_map (keys all k) rows) ∙ none_of q e rows

        same : insert_all (all_keys all k more) ks ≡ ks
        same = same_keys _ _ (ascending-insert_all (all_keys all k more) ks up) up (λ q. has_key-insert_all q (all_keys all k more) ks
            ∙ elim (has_key q ks) as (λ b. has_key q ks ≡ b → (has_key q (all_keys all k more) || b) ≡ b) [
              | true ↦ λ e. or-true (has_key q (all_keys all k more))
              | false ↦ λ e. ap (λ b. b || false) (none_among q e more)
            ] refl)

    -- a composite aggregation's page
    paged : (sources : List _) (size : ℕ) (after : Option Key) (rows more : List PlacedRow) → First rows → Then more
        → node_of false all roots cs (kind.Composite sources size after) (rows ++ more)
        ≡ gathered_node all gs (kind.Composite sources size after) more (out-Node (node_of false all roots cs (kind.Composite sources size after) rows))
    paged sources size after rows more f t =
        let k = kind.Composite sources size after in
        ap (λ bs. Keyed bs 0 0 0) (
        (λ i. map (at (λ q. sym (group-more all k rows more q) i)) (page sources size after (keys-more all k rows more i)))
        ∙ sym (put-page-groups First Then tt gs cs gathers sources size after (group all k more) (of_later k more t) (all_keys all k more) (group all k rows) (all_keys all k rows)
        (all-keys all sources size after more) (all-keys all sources size after rows) (λ q e. of_group k rows f q) (no_rows all k rows more rows)))
        ∙ ap (gathered_node all gs k more) (sym (out-Keyed _ 0 0 0))

    -- a number over values, row by row
    number : (k : Kind) (field : ℕ) (missing : Option Scalar) (of_values : List Scalar → Metric) (with : List Scalar → Metric → Metric)
        → ((vs ws : List Scalar) → of_values (vs ++ ws) ≡ with ws (of_values vs)) → ((row : PlacedRow) (m : Metric) → metric_with k row m ≡ with (values_or field missing row) m)
        → (rows more : List PlacedRow) → of_values (flat_map (values_or field missing) (rows ++ more)) ≡ gathered_metric k more (of_values (flat_map (values_or field missing) rows))
    number k field missing of_values with adds is rows [] = ap (λ rs. of_values (flat_map (values_or field missing) rs)) (append-nil rows)
    number k field missing of_values with adds is rows (row ∷ more) =
        ap (λ rs. of_values (flat_map (values_or field missing) rs)) (sym (append_assoc rows (row ∷ []) more))
        ∙ number k field missing of_values with adds is (rows ++ row ∷ []) more
        ∙ ap (gathered_metric k more) (ap of_values (flat_map-append (values_or field missing) rows (row ∷ []) ∙ ap (λ vs. flat_map (values_or field missing) rows ++ vs) (append-nil (values_or field missing row)))
        ∙ adds (flat_map (values_or field missing) rows) (values_or field missing row) ∙ sym (is row (of_values (flat_map (values_or field missing) rows))))

    -- the one key of a single bucket exists from the start
    single-among : (q : Key) (b : Bool) → has_key q (key.Fixed 0 ∷ []) ≡ false → has_key q (single_key b) ≡ false
    single-among q true e = e
    single-among q false e = refl

    -- more rows that the aggregation counts
    pub counted-more : (k : Kind) (rows more : List PlacedRow) → First rows → Then more → node_of false all roots cs k (rows ++ more) ≡ gathered_node all gs k more (out-Node (node_of false all roots cs k rows))
    counted-more (kind.Filters names filters other) rows more f t =
        fixed (kind.Filters names filters other) (λ bs. refl) (fixed_keys (kind.Filters names filters other)) (ascending-fixed_keys (kind.Filters names filters other)) (λ q r. filters-among (λ p. matches all p r) filters other q) rows more f t
    counted-more (kind.Filter query) rows more f t = fixed (kind.Filter query) (λ bs. refl) (key.Fixed 0 ∷ []) tt (λ q r. single-among q _) rows more f t
    counted-more (kind.Missing field) rows more f t = fixed (kind.Missing field) (λ bs. refl) (key.Fixed 0 ∷ []) tt (λ q r. single-among q _) rows more f t
    counted-more kind.Global rows more f t = fixed kind.Global (λ bs. refl) (key.Fixed 0 ∷ []) tt (λ q r. single-among q true) rows more f t
    counted-more (kind.Nested context) rows more f t = fixed (kind.Nested context) (λ bs. refl) (key.Fixed 0 ∷ []) tt (λ q r. single-among q true) rows more f t
    counted-more (kind.ReverseNested context) rows more f t = fixed (kind.ReverseNested context) (λ bs. refl) (key.Fixed 0 ∷ []) tt (λ q r. single-among q true) rows more f t
    counted-more (kind.Composite sources size after) rows more f t = paged sources size after rows more f t
    counted-more (kind.Sum field missing) rows more f t = ap Number (number (kind.Sum field missing) field missing metric_of with_values metric-append (λ row m. refl) rows more) ∙ ap (gathered_node all gs (kind.Sum field missing) more) (sym (out-Number _))
    counted-more (kind.Min field missing) rows more f t = ap Number (number (kind.Min field missing) field missing metric_of with_values metric-append (λ row m. refl) rows more) ∙ ap (gathered_node all gs (kind.Min field missing) more) (sym (out-Number _))
    counted-more (kind.Max field missing) rows more f t = ap Number (number (kind.Max field missing) field missing metric_of with_values metric-append (λ row m. refl) rows more) ∙ ap (gathered_node all gs (kind.Max field missing) more) (sym (out-Number _))
    counted-more (kind.Avg field missing) rows more f t = ap Number (number (kind.Avg field missing) field missing metric_of with_values metric-append (λ row m. refl) rows more) ∙ ap (gathered_node all gs (kind.Avg field missing) more) (sym (out-Number _))
    counted-more (kind.ValueCount field missing) rows more f t =
        ap Number (number (kind.ValueCount field missing) field missing metric_of with_values metric-append (λ row m. refl) rows more) ∙ ap (gathered_node all gs (kind.ValueCount field missing) more) (sym (out-Number _))
    counted-more k rows more f t = keyed k (λ bs. refl) rows more f t

  -- what an aggregation counts of some rows and more, and in which documents that lies
  pub record HandsOn (k : Kind) : Type 0 where
    pub apart : (rows more : List PlacedRow) → First rows → Then more → under all [] k (rows ++ more) ≡ under all [] k rows ++ under all [] k more
    pub before : (rows : List PlacedRow) → First rows → First (under all [] k rows)
    pub behind : (rows : List PlacedRow) → Then rows → Then (under all [] k rows)

  -- all aggregations but global ones
  hands-on : (k : Kind) → T (not (is_global k)) → HandsOn k
  hands-on kind.Global p = absurd p
  hands-on (kind.Nested context) p = record {
    apart = λ rows more f t. flat_map-append (beneath all context) rows more;
    before = beneath-before n all cut context;
    behind = beneath-behind n all cut context;
  }
  hands-on (kind.ReverseNested context) p = record {
    apart = enclosing-apart n all cut context;
    before = enclosing-before n all cut context;
    behind = enclosing-behind n all cut context;
  }
  hands-on _ p = record { apart = λ rows more f t. refl; before = λ rows f. f; behind = λ rows t. t }

  mutual
    -- the empty tree is that of the definition
    empty-is : (a : Agg) → empty_node a ≡ (gatherer_of all a).empty
    empty-is (Agg' name k m children) = ap (λ es. empty_by es (fixed_keys k) (shape_of k)) (empties-are children)

    -- child by child
    empties-are : {m : _} (children : Row_of-Agg m) → fold_aggs (λ a. empty_by a.children (fixed_keys a.kind) (shape_of a.kind)) children ≡ map (λ g. g.empty) (fold_aggs (gatherer_at all) children)
    empties-are end_of-Agg = refl
    empties-are (more_of-Agg a rest) = λ i. empty-is a i ∷ empties-are rest i

  mutual
    -- rows of later documents
    pub collected-gathers : (a : Agg) → T (is_placed a false) → (rows more : List PlacedRow) → First rows → Then more → collected_node false all [] a (rows ++ more) ≡ gathered all a more (collected_node false all [] a rows)
    collected-gathers (Agg' name k m children) p rows more f t =
        let on = hands-on k (and_left _ _ p) in
        ap (node_of false all [] (fold_aggs (collector_of false all []) children) k) (on.apart rows more f t)
        ∙ counted-more (fold_aggs (gatherer_at all) children) (fold_aggs (collector_of false all []) children) (each-gathers children (and_right _ _ p)) [] k (under all [] k rows) (under all [] k more) (on.before rows f) (on.behind more t)

    -- child by child
    pub each-gathers : {m : _} (children : Row_of-Agg m) → T (list_all {X = Bool → Bool} (λ child. child false) (fold_aggs is_placed_at children)) → Gathers First Then (fold_aggs (gatherer_at all) children) (fold_aggs (collector_of false all []) children)
    each-gathers end_of-Agg p = tt
    each-gathers (more_of-Agg a rest) p = ((collected-begins all a ∙ empty-is a, collected-gathers a (and_left _ _ p)), each-gathers rest (and_right _ _ p))

  -- more roots that a global aggregation at the top counts
  pub global-gathers : (a : Agg) → is_global (out-Agg a).kind ≡ true → T (is_placed a true) → (globals more rows : List PlacedRow) → First globals → Then more
      → collected_node false all (globals ++ more) a rows ≡ counted all a more (collected_node false all globals a rows)
  unfolding computing
  global-gathers (Agg' name k m children) e p globals more rows f t =
      (λ i. node_of false all (globals ++ more) (collectors-same false all (globals ++ more) [] children (and_right true _ p) i) k (global-under k e (globals ++ more) rows i))
      ∙ counted-more (fold_aggs (gatherer_at all) children) (fold_aggs (collector_of false all []) children) (each-gathers children (and_right true _ p)) (globals ++ more) k globals more f t
      ∙ ap (λ node. gathered_node all (fold_aggs (gatherer_at all) children) k more (out-Node node))
      (node-same false all (globals ++ more) globals (fold_aggs (collector_of false all []) children) k globals
      ∙ (λ i. node_of false all globals (collectors-same false all [] globals children (and_right true _ p) i) k (sym (global-under k e globals rows) i)))
    where
      global-under : (k : Kind) → is_global k ≡ true → (roots rows : List PlacedRow) → under all roots k rows ≡ roots
      global-under kind.Global e roots rows = refl
      global-under _ e roots rows = absurd (subst T (sym e) tt)
