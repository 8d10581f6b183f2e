-- The whole at a node of buckets that exist from the start, and at a metric, keeps the laws.
use Rattle.std.specs.Prelude.{◌≡◌, refl, ℕ, Bool, true, ◌&&◌, ◌||◌, List, [], ◌∷◌, ◌++◌, map, flat_map}
use Rattle.std.specs.List.{list_all}
use Rattle.std.specs.Ordering.{is_eq}
use Rattle.std.specs.FinMap.{slice_cmp-IsAntisymmetric}
use Rattle.std.proofs.Common.{sym, ◌∙◌, ap, append-nil}
use Rattle.agg_model.specs.declared.partial.Metric.{Metric}
use Rattle.agg_model.specs.declared.partial.Bucket.{Bucket}
use Rattle.agg_model.specs.declared.partial.Node.{Node, out-Node}
use Rattle.agg_model.specs.declared.partial.Node.TheOpen.{Node-F}
use Rattle.agg_model.specs.declared.partial.Node.TheVariants.{Fixed, Number, rolls-Fixed, rolls-Number, outs-Fixed, outs-Number}
use Rattle.agg_model.specs.declared.aggregation.Kind.{Kind}
use Rattle.agg_evaluation.specs.KeyOrder.{has_key}
use Rattle.agg_evaluation.specs.Orders.{bucket_key}
use Rattle.agg_evaluation.specs.Shard.{fixed_keys}
use Rattle.agg_evaluation.specs.Whole.{Shape, by_key, from_start, a_number, parts, metric_sum, whole_by}
use Rattle.agg_evaluation.specs.Trees.{is_ascending, are_same_keys, have_children, is_tree_at, fits_u64, fits_i128, node_fits, node_fits_at, bucket_fits}
use Rattle.agg_evaluation.proofs.KeyExact.{exact_keys}
use Rattle.partial_result.specs.Merged.{merged}
use Rattle.agg_evaluation.proofs.NodeFolds.{fold_node-Fixed}
use Rattle.partial_result.proofs.MergeLevels.{merged-Fixed, merged-Number}
use Rattle.list_laws.proofs.Booleans.{and_first, and_second, and_both}
use Rattle.list_laws.proofs.Orders.{equal_of}
use Rattle.partial_result.proofs.FixedKeys.{ascending-fixed, slice_cmp-itself}
use Rattle.partial_result.proofs.MetricLaws.{metric_sum-one, metric_sum-two}
use Rattle.partial_result.proofs.ColumnLaws.{IsWhole, EachWhole, false_true}
use Rattle.partial_result.proofs.Found.{sorted-entries}
use Rattle.partial_result.proofs.Tables.{table, keys-table, table-pass, table-one}
use Rattle.partial_result.proofs.TableLaws.{bucket_passes, table-two}
use Rattle.partial_result.proofs.NodeLaws.{Level, parts_of, node_of, buckets_in, all-map, or_itself, keyed_is}

abbrev metrics_in : List Node → List Metric
metrics_in trees = flat_map (λ t. (parts t).metrics) trees

module _ (ws : List (List Node → Node)) (tests : List (Node → Bool)) (each : EachWhole ws tests) (k : Kind) where
  abbrev fixed_table : List Bucket → List Bucket
  fixed_table bs = table ws tests each (fixed_keys k) bs

  abbrev fixed : List Node → Node
  fixed = whole_by ws k from_start

  fixed-tree : (xs : List Node) → is_tree_at tests (fixed_keys k) from_start (out-Node (fixed xs)) ≡ true
  fixed-tree xs =
      ap (is_tree_at tests (fixed_keys k) from_start) (outs-Fixed (fixed_table (buckets_in xs)))
      ∙ and_both _ _ (ap (λ ks. are_same_keys ks (fixed_keys k)) (keys-table ws tests each (fixed_keys k) (buckets_in xs)) ∙ ap is_eq (slice_cmp-itself (fixed_keys k)))
      (table-pass ws tests each (fixed_keys k) (buckets_in xs))

  keys_are : (bs : List Bucket) → are_same_keys (map bucket_key bs) (fixed_keys k) ≡ true → map bucket_key bs ≡ fixed_keys k
  keys_are bs h = slice_cmp-IsAntisymmetric exact_keys (map bucket_key bs) (fixed_keys k) (equal_of _ h)

  rising : (bs : List Bucket) → are_same_keys (map bucket_key bs) (fixed_keys k) ≡ true → is_ascending (map bucket_key bs) ≡ true
  rising bs h = ap is_ascending (keys_are bs h) ∙ ascending-fixed k

  fixed-one : (n : Node) (d : Level) → out-Node n ≡ d → is_tree_at tests (fixed_keys k) from_start d ≡ true → fixed (n ∷ []) ≡ n
  fixed-one n (Node-F.Fixed bs) is pass =
      let p = parts_of n (Node-F.Fixed bs) is in
      let keys = and_first (are_same_keys (map bucket_key bs) (fixed_keys k)) (have_children tests bs) pass in
      let kids = and_second (are_same_keys (map bucket_key bs) (fixed_keys k)) (have_children tests bs) pass in
      (λ i. Fixed (fixed_table (append-nil (p i).buckets i)))
      ∙ ap Fixed (ap (λ ks. table ws tests each ks bs) (sym (keys_are bs keys)) ∙ table-one ws tests each bs (rising bs keys) kids)
      ∙ sym (node_of n (Node-F.Fixed bs) is ∙ rolls-Fixed bs)
  fixed-one n (Node-F.Keyed bs e f c) is pass = false_true pass
  fixed-one n (Node-F.Number m) is pass = false_true pass

  fixed-two : (m n : Node) (d g : Level) → out-Node m ≡ d → out-Node n ≡ g → is_tree_at tests (fixed_keys k) from_start d ≡ true → is_tree_at tests (fixed_keys k) from_start g ≡ true
      → node_fits (fixed (m ∷ n ∷ [])) ≡ true → merged n m ≡ fixed (m ∷ n ∷ [])
  fixed-two m n (Node-F.Fixed bs) (Node-F.Fixed cs) is is' pass pass' fits =
      let p = parts_of m (Node-F.Fixed bs) is in
      let q = parts_of n (Node-F.Fixed cs) is' in
      let whole_is : fixed (m ∷ n ∷ []) ≡ Fixed (fixed_table (bs ++ cs)) = λ i. Fixed (fixed_table ((p i).buckets ++ append-nil (q i).buckets i)) in
      let level : list_all (λ fits. fits) (map bucket_passes (fixed_table (bs ++ cs))) ≡ true =
      sym (fold_node-Fixed node_fits_at bucket_fits (fixed_table (bs ++ cs))) ∙ ap node_fits (sym whole_is) ∙ fits in
      let keys = and_first (are_same_keys (map bucket_key bs) (fixed_keys k)) (have_children tests bs) pass in
      let kids = and_second (are_same_keys (map bucket_key bs) (fixed_keys k)) (have_children tests bs) pass in
      let keys' = and_first (are_same_keys (map bucket_key cs) (fixed_keys k)) (have_children tests cs) pass' in
      let kids' = and_second (are_same_keys (map bucket_key cs) (fixed_keys k)) (have_children tests cs) pass' in
      let buckets = table-two ws tests each (fixed_keys k) bs cs (ascending-fixed k)
      (λ key. or_itself (has_key key (fixed_keys k)) ∙ (λ i. has_key key (sym (keys_are bs keys) i) || has_key key (sym (keys_are cs keys') i)))
      (sorted-entries bs ∙ rising bs keys) (sorted-entries cs ∙ rising cs keys') kids kids' (sym (all-map (fixed_table (bs ++ cs))) ∙ level) in
      (λ i. merged ((node_of n (Node-F.Fixed cs) is' ∙ rolls-Fixed cs) i) ((node_of m (Node-F.Fixed bs) is ∙ rolls-Fixed bs) i))
      ∙ merged-Fixed cs bs ∙ ap Fixed buckets ∙ sym whole_is
  fixed-two m n (Node-F.Fixed bs) (Node-F.Keyed cs e f c) is is' pass pass' fits = false_true pass'
  fixed-two m n (Node-F.Fixed bs) (Node-F.Number o) is is' pass pass' fits = false_true pass'
  fixed-two m n (Node-F.Keyed bs e f c) g is is' pass pass' fits = false_true pass
  fixed-two m n (Node-F.Number o) g is is' pass pass' fits = false_true pass

  pub fixed_is : IsWhole fixed (λ n. is_tree_at tests (fixed_keys k) from_start (out-Node n))
  fixed_is = record {
    tree = fixed-tree;
    one = λ n pass. fixed-one n (out-Node n) refl pass;
    two = λ m n pass pass' fits. fixed-two m n (out-Node m) (out-Node n) refl refl pass pass' fits;
  }

  abbrev number : List Node → Node
  number = whole_by ws k a_number

  number-one : (n : Node) (d : Level) → out-Node n ≡ d → is_tree_at tests (fixed_keys k) a_number d ≡ true → number (n ∷ []) ≡ n
  number-one n (Node-F.Number m) is pass =
      let p = parts_of n (Node-F.Number m) is in
      (λ i. Number (metric_sum (append-nil (p i).metrics i))) ∙ ap Number (metric_sum-one m) ∙ sym (node_of n (Node-F.Number m) is ∙ rolls-Number m)
  number-one n (Node-F.Keyed bs e f c) is pass = false_true pass
  number-one n (Node-F.Fixed bs) is pass = false_true pass

  number-fits : (m : Metric) → node_fits (Number m) ≡ (fits_u64 m.count && fits_i128 m.sum)
  number-fits m = refl

  number-two : (m n : Node) (d g : Level) → out-Node m ≡ d → out-Node n ≡ g → is_tree_at tests (fixed_keys k) a_number d ≡ true → is_tree_at tests (fixed_keys k) a_number g ≡ true
      → node_fits (number (m ∷ n ∷ [])) ≡ true → merged n m ≡ number (m ∷ n ∷ [])
  number-two m n (Node-F.Number o) (Node-F.Number p) is is' pass pass' fits =
      let q = parts_of m (Node-F.Number o) is in
      let r = parts_of n (Node-F.Number p) is' in
      let whole_is : number (m ∷ n ∷ []) ≡ Number (metric_sum (o ∷ p ∷ [])) = λ i. Number (metric_sum ((q i).metrics ++ append-nil (r i).metrics i)) in
      let total = metric_sum (o ∷ p ∷ []) in
      let level : (fits_u64 total.count && fits_i128 total.sum) ≡ true = sym (number-fits total) ∙ ap node_fits (sym whole_is) ∙ fits in
      (λ i. merged ((node_of n (Node-F.Number p) is' ∙ rolls-Number p) i) ((node_of m (Node-F.Number o) is ∙ rolls-Number o) i))
      ∙ merged-Number p o ∙ ap Number (metric_sum-two o p (and_first (fits_u64 total.count) (fits_i128 total.sum) level) (and_second (fits_u64 total.count) (fits_i128 total.sum) level))
      ∙ sym whole_is
  number-two m n (Node-F.Number o) (Node-F.Keyed cs e f c) is is' pass pass' fits = false_true pass'
  number-two m n (Node-F.Number o) (Node-F.Fixed cs) is is' pass pass' fits = false_true pass'
  number-two m n (Node-F.Keyed bs e f c) g is is' pass pass' fits = false_true pass
  number-two m n (Node-F.Fixed bs) g is is' pass pass' fits = false_true pass

  pub number_is : IsWhole number (λ n. is_tree_at tests (fixed_keys k) a_number (out-Node n))
  number_is = record {
    tree = λ xs. ap (is_tree_at tests (fixed_keys k) a_number) (outs-Number (metric_sum (metrics_in xs)));
    one = λ n pass. number-one n (out-Node n) refl pass;
    two = λ m n pass pass' fits. number-two m n (out-Node m) (out-Node n) refl refl pass pass' fits;
  }

  -- at each shape
  pub shape_is : (s : Shape) → IsWhole (whole_by ws k s) (λ n. is_tree_at tests (fixed_keys k) s (out-Node n))
  shape_is by_key = keyed_is ws tests each k
  shape_is from_start = fixed_is
  shape_is a_number = number_is
