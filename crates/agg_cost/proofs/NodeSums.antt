-- The bound of an aggregation is the sum over its nodes.
use Rattle.std.proofs.Common.{◌≡◌, refl, ℕ, ◌+◌, ◌*◌, List, map, sym, ◌∙◌, ap, arith}
use Rattle.std.specs.Prelude.{Bool, true, false, sum, sum_by}
use Rattle.std.proofs.lemmas.List.Sums.{sum_by-cons, sum_by-append, sum-map}
use Rattle.list_laws.proofs.Lists.{sum_by-flat_map}
use Rattle.agg_model.specs.declared.mapping.FieldKind.{FieldKind}
use Rattle.agg_model.specs.declared.aggregation.Agg.{Agg, Agg', Row_of-Agg, end_of-Agg, more_of-Agg, out-Agg}
use Rattle.agg_model.specs.declared.aggregation.Search.{Search}
use Rattle.agg_evaluation.specs.Folds.{fold_aggs}
use Rattle.agg_evaluation.specs.Rows.{PlacedRow}
use Rattle.agg_evaluation.specs.Whole.{shape_of}
use Rattle.agg_evaluation.specs.Ceiling.{Reached, path_count, handed_on, bucket_bound, key_bound, node_bound, node_bound_at, collected_roots, task_bound, ceiling, ceiling_by, has_wide_row, within_greatest}
use Rattle.agg_cost.specs.Nodes.{NodeBounds, bytes, nodes, nodes_below, search_nodes, twice_bytes, unless_wide, ceiling_by_nodes}

abbrev Bound : Type 0
Bound = ℕ → List Reached → ℕ

module _ (kinds : List FieldKind) (all : List PlacedRow) where
  mutual
    pub node-bytes : (a : Agg) (instances : ℕ) (reached : List Reached) → node_bound kinds all a instances reached ≡ sum_by bytes (nodes kinds all a instances reached)
    node-bytes (Agg' name k n children) instances reached =
        let handed = handed_on kinds all k reached in
        let buckets = bucket_bound kinds all k (shape_of k) instances (path_count handed) in
        let own : NodeBounds = record { instances = instances; buckets = buckets; key_bytes = key_bound kinds all k } in
        let first = sum_by-cons bytes own (nodes_below kinds all children buckets handed) in
        let below = bytes-below children buckets handed in
        omega arith

    bytes-below : {n : _} (children : Row_of-Agg n) (instances : ℕ) (reached : List Reached) →
        sum (map (λ bound. bound instances reached) (fold_aggs (node_bound_at kinds all) children)) ≡ sum_by bytes (nodes_below kinds all children instances reached)
    bytes-below end_of-Agg instances reached = refl
    bytes-below (more_of-Agg a rest) instances reached =
        let here = node-bytes a instances reached in
        let there = bytes-below rest instances reached in
        let bounds = sum_by-cons (λ (n : ℕ). n) (node_bound kinds all a instances reached) (map (λ (bound : Bound). bound instances reached) (fold_aggs (node_bound_at kinds all) rest)) in
        let both = sum_by-append bytes (nodes kinds all a instances reached) (nodes_below kinds all rest instances reached) in
        omega arith

pub task-bytes : (kinds : List FieldKind) (search : Search) (all : List PlacedRow) → task_bound kinds search all ≡ twice_bytes (search_nodes kinds search all)
task-bytes kinds search all =
    let reached = λ (a : Agg). collected_roots search all (out-Agg a).kind in
    ap (λ (n : ℕ). 2 * (4096 + n))
    (sum-map (λ (a : Agg). node_bound kinds all a 1 (reached a)) search.aggs
    ∙ ((λ i. sum_by (λ (a : Agg). node-bytes kinds all a 1 (reached a) i) search.aggs)
    ∙ sym (sum_by-flat_map bytes (λ (a : Agg). nodes kinds all a 1 (reached a)) search.aggs)))

pub ceiling-by-nodes : (kinds : List FieldKind) (search : Search) (all : List PlacedRow) → ceiling kinds search all ≡ ceiling_by_nodes kinds search all
ceiling-by-nodes kinds search all = by_width (has_wide_row search all)
  where
    by_width : (b : Bool) → ceiling_by b kinds search all ≡ unless_wide b (search_nodes kinds search all)
    by_width true = refl
    by_width false = ap within_greatest (task-bytes kinds search all)
