-- The whole of an aggregation and of a search keep the laws.
use Rattle.std.specs.Prelude.{◌≡◌, refl, ℕ, ◌+◌, ◌-◌, ◌^◌, ◌<◌, true, ◌&&◌, List, [], ◌∷◌, ◌++◌, map, filter_map, slice_get}
use Rattle.std.specs.List.{enumerate_from, list_all}
use Rattle.std.proofs.Common.{sym, ◌∙◌, ap}
use Rattle.agg_model.specs.declared.partial.Node.{Node, out-Node}
use Rattle.agg_model.specs.declared.partial.Partial.{Partial}
use Rattle.agg_model.specs.declared.aggregation.Agg.{Agg, Agg', Row_of-Agg, end_of-Agg, more_of-Agg}
use Rattle.agg_model.specs.declared.aggregation.Search.{Search}
use Rattle.agg_evaluation.specs.Folds.{fold_aggs}
use Rattle.agg_evaluation.specs.Shard.{fixed_keys}
use Rattle.agg_evaluation.specs.Whole.{shape_of, whole_by, whole_node, whole}
use Rattle.agg_evaluation.specs.Trees.{is_tree_at, is_tree_of, is_result_of, fits_u64, node_fits, numbers_fit}
use Rattle.partial_result.specs.Merged.{merged_partial}
use Rattle.list_laws.proofs.Booleans.{and_first, and_second}
use Rattle.partial_result.proofs.Columns.{columns, wholes_are}
use Rattle.partial_result.proofs.ColumnLaws.{IsWhole, EachWhole, columns-two}
use Rattle.partial_result.proofs.ShapeLaws.{shape_is}
use Rattle.partial_result.proofs.MetricLaws.{two_sum}

mutual
  pub whole_is : (a : Agg) → IsWhole (whole_node a) (is_tree_of a)
  whole_is (Agg' name kind n children) =
      shape_is (fold_aggs (λ a. whole_by a.children a.kind (shape_of a.kind)) children) (fold_aggs (λ a m. is_tree_at a.children (fixed_keys a.kind) (shape_of a.kind) (out-Node m)) children) (each_is children) kind (shape_of kind)

  each_is : {n : _} (row : Row_of-Agg n) → EachWhole (fold_aggs (λ a. whole_by a.children a.kind (shape_of a.kind)) row) (fold_aggs (λ a m. is_tree_at a.children (fixed_keys a.kind) (shape_of a.kind) (out-Node m)) row)
  each_is end_of-Agg = tt
  each_is (more_of-Agg a rest) = (whole_is a, each_is rest)

each_agg : (aggs : List Agg) → EachWhole (map whole_node aggs) (map is_tree_of aggs)
each_agg [] = tt
each_agg (a ∷ aggs) = (whole_is a, each_agg aggs)

abbrev nodes_of : Partial → List Node
nodes_of p = p.nodes

abbrev hits_of : Partial → ℕ
hits_of p = p.hits

by_wholes : (F : ℕ → List Node) (k : ℕ) (aggs : List Agg) → map (λ a. whole_node a.1 (F a.0)) (enumerate_from k aggs) ≡ map (λ c. c.1 (F c.0)) (enumerate_from k (map whole_node aggs))
by_wholes F k [] = refl
by_wholes F k (a ∷ aggs) = ap (λ ns. whole_node a (F k) ∷ ns) (by_wholes F (k + 1) aggs)

-- the whole of a search, column by column
pub whole-nodes : (search : Search) (ps : List Partial) → (whole search ps).nodes ≡ columns nodes_of (map whole_node search.aggs) ps
whole-nodes search ps = by_wholes (λ k. filter_map (λ t. slice_get t.nodes k) ps) 0 search.aggs ∙ wholes_are nodes_of (map whole_node search.aggs) ps

pub whole-two : (search : Search) (p q : Partial) → is_result_of search p ≡ true → is_result_of search q ≡ true → numbers_fit (whole search (p ∷ q ∷ [])) ≡ true → merged_partial q p ≡ whole search (p ∷ q ∷ [])
whole-two search p q pass pass' fits =
    let level = whole-nodes search (p ∷ q ∷ []) in
    let total = fits_u64 (0 + p.hits + q.hits) in
    let kept = list_all node_fits (whole search (p ∷ q ∷ [])).nodes in
    λ i. record {
      hits = two_sum p.hits q.hits (and_first total kept fits) i;
      nodes = (columns-two nodes_of (map whole_node search.aggs) (map is_tree_of search.aggs) p q p.nodes q.nodes (each_agg search.aggs) refl refl pass pass' (ap (list_all node_fits) (sym level) ∙ and_second total kept fits) ∙ sym level) i;
    }
