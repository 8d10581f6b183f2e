-- A shard answer is a tree of its aggregation.
use Rattle.std.specs.Prelude.{◌≡◌, refl, ℕ, ◌≤◌, Bool, true, false, T, List, [], ◌∷◌, map, filter, flat_map, take, if◌then◌else◌, Option}
use Rattle.std.specs.List.{list_all}
use Rattle.std.specs.Option.{option_map_or}
use Rattle.std.specs.Ordering.{is_gt, is_eq, ordering_then}
use Rattle.std.specs.Cmp.Lexicographic.{slice_cmp}
use Rattle.std.specs.Cmp.{tied_itself}
use Rattle.std.proofs.Common.{sym, ap, subst, arith}
use Rattle.agg_model.specs.declared.key.Key.{Key}
use Rattle.agg_model.specs.declared.key.Key.TheVariants as key
use Rattle.agg_model.specs.declared.partial.Metric.{Metric}
use Rattle.agg_model.specs.declared.aggregation.CompositeSource.{CompositeSource}
use Rattle.agg_model.specs.declared.partial.Bucket.{Bucket}
use Rattle.agg_model.specs.declared.partial.Node.{Node, out-Node}
use Rattle.agg_model.specs.declared.partial.Node.TheVariants.{Keyed, Fixed, Number}
use Rattle.agg_model.specs.declared.aggregation.Agg.{Agg, Agg', Row_of-Agg, end_of-Agg, more_of-Agg}
use Rattle.agg_model.specs.declared.aggregation.Kind.{Kind}
use Rattle.agg_model.specs.declared.aggregation.Kind.TheVariants as kind
use Rattle.agg_model.specs.declared.aggregation.Search.{Search}
use Rattle.agg_model.specs.declared.aggregation.Order.{Order}
use Rattle.agg_evaluation.specs.Folds.{fold_aggs}
use Rattle.list_laws.specs.Sorting.{sorted}
use Rattle.agg_evaluation.specs.KeyOrder.{key_cmp, key_eq}
use Rattle.agg_evaluation.specs.Rows.{PlacedRow, roots}
use Rattle.agg_evaluation.specs.Matching.{matched_roots}
use Rattle.agg_evaluation.specs.Keys.{keys}
use Rattle.agg_evaluation.specs.Groups.{under, group, all_keys, total_key_count}
use Rattle.agg_evaluation.specs.Orders.{bucket_key, bucket_cmp, composite_cmp}
use Rattle.agg_evaluation.specs.Shard.{Collector, fixed_keys, page, trimmed_node, with_covered, bucket_of, node_of, collector_of, collected_node, shard_answer}
use Rattle.agg_evaluation.specs.Whole.{by_key, from_start, a_number, shape_of}
use Rattle.agg_evaluation.specs.Trace.{built}
use Rattle.agg_evaluation.specs.Trees.{is_ascending, are_same_keys, pass_each, have_children, is_tree_at, is_tree_of, is_result_of}
use Rattle.agg_evaluation.proofs.NodeForms.{out-Keyed, out-Fixed, out-Number}
use Rattle.agg_evaluation.proofs.KeyCompare.{key_cmp_total}
use Rattle.agg_evaluation.proofs.KeyLists.{ascending-distinct_keys}
use Rattle.list_laws.proofs.Booleans.{and_left, and_right, both}
use Rattle.agg_evaluation.proofs.SortedLists.{ascending-sorted, ascending-once}
use Rattle.list_laws.proofs.Occurrences.{occurrences, occurrences-sorted, occurrences-take, occurrences-filter, occurrences-map, all-sorted, all-take, all-map}

pub same-self : (ks : List Key) → T (are_same_keys ks ks)
same-self [] = tt
same-self (k ∷ ks) = subst (λ r. T (is_eq (ordering_then r (slice_cmp key_cmp ks ks)))) (sym (tied_itself key_cmp_total k)) (same-self ks)

-- each collector with the test of its trees
abbrev Makes : List (Node → Bool) → List Collector → Type 0
Makes [] [] = Unit {0}
Makes (t ∷ ts) (c ∷ cs) = ((rows : List PlacedRow) → T (t (c.collect rows))) × Makes ts cs
Makes _ _ = ⊥

children-pass : (tests : List (Node → Bool)) (cs : List Collector) → Makes tests cs → (rows : List PlacedRow) → T (pass_each tests (map (λ c. c.collect rows) cs))
children-pass [] [] h rows = tt
children-pass [] (c ∷ cs) h rows = absurd h
children-pass (t ∷ ts) [] h rows = absurd h
children-pass (t ∷ ts) (c ∷ cs) h rows = both _ _ (h.0 rows) (children-pass ts cs h.1 rows)

module _ (trims : Bool) (all root_rows : List PlacedRow) (tests : List (Node → Bool)) (cs : List Collector) (makes : Makes tests cs) where
  abbrev buckets_of : Kind → List PlacedRow → List Key → List Bucket
  buckets_of k rows ks = map (bucket_of trims all root_rows k cs rows) ks

  keys-buckets : (k : Kind) (rows : List PlacedRow) (ks : List Key) → map bucket_key (buckets_of k rows ks) ≡ ks
  keys-buckets k rows [] = refl
  keys-buckets k rows (key ∷ ks) = ap (λ js. key ∷ js) (keys-buckets k rows ks)

  have-children : (k : Kind) (rows : List PlacedRow) (ks : List Key) → T (have_children tests (buckets_of k rows ks))
  have-children k rows ks = all-map (λ b. pass_each tests b.children) (bucket_of trims all root_rows k cs rows) ks (λ key. children-pass tests cs makes (group all k rows key))

  tree_by_key : (fixed : List Key) (bs : List Bucket) (e f c : ℕ) → T (is_ascending (map bucket_key bs)) → T (have_children tests bs)
      → T (is_tree_at tests fixed by_key (out-Node (Keyed bs e f c)))
  tree_by_key fixed bs e f c up h = subst (λ n. T (is_tree_at tests fixed by_key n)) (sym (out-Keyed bs e f c)) (both _ _ up h)

  keyed : (fixed : List Key) (k : Kind) (rows : List PlacedRow) (ks : List Key) → T (is_ascending ks) → T (is_tree_at tests fixed by_key (out-Node (Keyed (buckets_of k rows ks) 0 0 0)))
  keyed fixed k rows ks up = tree_by_key fixed _ 0 0 0 (subst (λ ks. T (is_ascending ks)) (sym (keys-buckets k rows ks)) up) (have-children k rows ks)

  started : (k : Kind) (rows : List PlacedRow) (ks : List Key) → T (is_tree_at tests ks from_start (out-Node (Fixed (buckets_of k rows ks))))
  started k rows ks = subst (λ n. T (is_tree_at tests ks from_start n)) (sym (out-Fixed _))
      (both _ _ (subst (λ js. T (are_same_keys js ks)) (sym (keys-buckets k rows ks)) (same-self ks)) (have-children k rows ks))

  number : (m : Metric) → T (is_tree_at tests (key.Fixed 0 ∷ []) a_number (out-Node (Number m)))
  number m = subst (λ n. T (is_tree_at tests (key.Fixed 0 ∷ []) a_number n)) (sym (out-Number m)) tt

  -- cutting keeps the keys apart and the children
  trimmed : (fixed : List Key) (k : Kind) (rows : List PlacedRow) (kinds : List Kind) (size : ℕ) (order : List Order) (n : ℕ)
      → T (is_tree_at tests fixed by_key (out-Node (trimmed_node kinds size order n (buckets_of k rows (all_keys all k rows)))))
  trimmed fixed k rows kinds size order n =
      let ks = all_keys all k rows in
      let cmp = bucket_cmp kinds order in
      let kept = take size (sorted cmp (buckets_of k rows ks)) in
      let mark = λ (e : ℕ) (b : Bucket). with_covered e b in
      let once : (e : ℕ) (q : Key) → occurrences (λ b. key_eq q (bucket_key b)) (map (mark e) kept) ≤ 1 = (λ e q.
      let marked = occurrences-map (λ b. key_eq q (bucket_key b)) (mark e) kept in
      let taken = occurrences-take (λ b. key_eq q (bucket_key b)) size (sorted cmp (buckets_of k rows ks)) in
      let put = occurrences-sorted cmp (λ b. key_eq q (bucket_key b)) (buckets_of k rows ks) in
      let made = occurrences-map (λ b. key_eq q (bucket_key b)) (bucket_of trims all root_rows k cs rows) ks in
      let single = ascending-once q ks (ascending-distinct_keys (flat_map (keys all k) rows)) in
      omega arith) in
      let pass : (e : ℕ) → T (list_all (λ b. pass_each tests b.children) (map (mark e) kept)) = (λ e.
      all-marked e kept (all-take (λ b. pass_each tests b.children) size _ (all-sorted cmp (λ b. pass_each tests b.children) (buckets_of k rows ks) (have-children k rows ks)))) in
      tree_by_key fixed _ _ _ _ (ascending-sorted bucket_key (map (mark _) kept) (once _)) (all-sorted (λ a b. key_cmp (bucket_key a) (bucket_key b)) (λ b. pass_each tests b.children) (map (mark _) kept) (pass _))
    where
      all-marked : (e : ℕ) (bs : List Bucket) → T (list_all (λ b. pass_each tests b.children) bs) → T (list_all (λ b. pass_each tests b.children) (map (with_covered e) bs))
      all-marked e [] h = tt
      all-marked e (b ∷ bs) h = both _ _ (and_left _ _ h) (all-marked e bs (and_right _ _ h))

ascending-page : (sources : List CompositeSource) (size : ℕ) (after : Option Key) (ks : List Key) → T (is_ascending ks) → T (is_ascending (page sources size after ks))
ascending-page sources size after ks up =
    let order = composite_cmp sources in
    let beyond = λ (k : Key). option_map_or (λ a. is_gt (order k a)) after true in
    let first = take size (filter beyond (sorted order ks)) in
    subst (λ ks. T (is_ascending ks)) (map-same (sorted key_cmp first)) (ascending-sorted (λ (k : Key). k) first (λ q.
    let taken = occurrences-take (key_eq q) size (filter beyond (sorted order ks)) in
    let kept = occurrences-filter (key_eq q) beyond (sorted order ks) in
    let put = occurrences-sorted order (key_eq q) ks in
    let single = ascending-once q ks up in
    omega arith))
  where
    map-same : (ks : List Key) → map (λ k. k) ks ≡ ks
    map-same [] = refl
    map-same (k ∷ ks) = ap (λ js. k ∷ js) (map-same ks)

module _ (trims : Bool) (all root_rows : List PlacedRow) where
  tree_at : (tests : List (Node → Bool)) (cs : List Collector) → Makes tests cs → (k : Kind) (rows : List PlacedRow) → T (is_tree_at tests (fixed_keys k) (shape_of k) (out-Node (node_of trims all root_rows cs k rows)))
  tree_at tests cs makes (kind.Terms field size shard_size min_doc_count order include exclude missing show_error) rows =
      let k = kind.Terms field size shard_size min_doc_count order include exclude missing show_error in
      let ks = all_keys all k rows in
      elim trims as (λ b. T (is_tree_at tests (key.Fixed 0 ∷ []) by_key (out-Node (if b then trimmed_node (map (λ c. c.kind) cs) shard_size order (total_key_count all k rows) (map (bucket_of trims all root_rows k cs rows) ks)
      else Keyed (map (bucket_of trims all root_rows k cs rows) ks) 0 0 0)))) [
        | true ↦ trimmed trims all root_rows tests cs makes (key.Fixed 0 ∷ []) k rows (map (λ c. c.kind) cs) shard_size order (total_key_count all k rows)
        | false ↦ keyed trims all root_rows tests cs makes (key.Fixed 0 ∷ []) k rows ks (ascending-distinct_keys (flat_map (keys all k) rows))
      ]
  tree_at tests cs makes (kind.Histogram field interval offset min_doc_count extended hard is_keyed order missing) rows =
      let k = kind.Histogram field interval offset min_doc_count extended hard is_keyed order missing in
      keyed trims all root_rows tests cs makes (key.Fixed 0 ∷ []) k rows (all_keys all k rows) (ascending-distinct_keys (flat_map (keys all k) rows))
  tree_at tests cs makes (kind.DateHistogram field period zone min_doc_count extended hard is_keyed order missing) rows =
      let k = kind.DateHistogram field period zone min_doc_count extended hard is_keyed order missing in
      keyed trims all root_rows tests cs makes (key.Fixed 0 ∷ []) k rows (all_keys all k rows) (ascending-distinct_keys (flat_map (keys all k) rows))
  tree_at tests cs makes (kind.Composite sources size after) rows =
      let k = kind.Composite sources size after in
      keyed trims all root_rows tests cs makes (key.Fixed 0 ∷ []) k rows (page sources size after (all_keys all k rows))
      (ascending-page sources size after (all_keys all k rows) (ascending-distinct_keys (flat_map (keys all k) rows)))
  tree_at tests cs makes (kind.Filters names filters other) rows = started trims all root_rows tests cs makes (kind.Filters names filters other) rows (fixed_keys (kind.Filters names filters other))
  tree_at tests cs makes (kind.Filter query) rows = started trims all root_rows tests cs makes (kind.Filter query) rows (key.Fixed 0 ∷ [])
  tree_at tests cs makes (kind.Missing field) rows = started trims all root_rows tests cs makes (kind.Missing field) rows (key.Fixed 0 ∷ [])
  tree_at tests cs makes kind.Global rows = started trims all root_rows tests cs makes kind.Global rows (key.Fixed 0 ∷ [])
  tree_at tests cs makes (kind.Nested context) rows = started trims all root_rows tests cs makes (kind.Nested context) rows (key.Fixed 0 ∷ [])
  tree_at tests cs makes (kind.ReverseNested context) rows = started trims all root_rows tests cs makes (kind.ReverseNested context) rows (key.Fixed 0 ∷ [])
  tree_at tests cs makes (kind.Sum field missing) rows = number trims all root_rows tests cs makes _
  tree_at tests cs makes (kind.Min field missing) rows = number trims all root_rows tests cs makes _
  tree_at tests cs makes (kind.Max field missing) rows = number trims all root_rows tests cs makes _
  tree_at tests cs makes (kind.Avg field missing) rows = number trims all root_rows tests cs makes _
  tree_at tests cs makes (kind.ValueCount field missing) rows = number trims all root_rows tests cs makes _

  mutual
    pub collected-is_tree : (a : Agg) (rows : List PlacedRow) → T (is_tree_of a (collected_node trims all root_rows a rows))
    collected-is_tree (Agg' name k n children) rows = tree_at _ _ (each-is_tree children) k (under all root_rows k rows)

    each-is_tree : {n : _} (children : Row_of-Agg n) → Makes (fold_aggs (λ a n. is_tree_at a.children (fixed_keys a.kind) (shape_of a.kind) (out-Node n)) children) (fold_aggs (collector_of trims all root_rows) children)
    each-is_tree end_of-Agg = tt
    each-is_tree (more_of-Agg a rest) = (collected-is_tree a, each-is_tree rest)

each-is_result : (trims : Bool) (all root_rows rows : List PlacedRow) (aggs : List Agg) → T (pass_each (map is_tree_of aggs) (map (λ a. collected_node trims all root_rows a rows) aggs))
each-is_result trims all root_rows rows [] = tt
each-is_result trims all root_rows rows (a ∷ aggs) = both _ _ (collected-is_tree trims all root_rows a rows) (each-is_result trims all root_rows rows aggs)

pub shard_answer-is_result : (search : Search) (all : List PlacedRow) → T (is_result_of search (shard_answer search all))
shard_answer-is_result search all = each-is_result true all (roots all) (matched_roots all search.query) search.aggs

pub built-is_result : (search : Search) (all : List PlacedRow) (n : ℕ) → T (is_result_of search (built search all n))
built-is_result search all n = each-is_result false all _ (take n (matched_roots all search.query)) search.aggs
