use Rattle.std.proofs.Common.{◌≡◌, ℕ, length}
use Rattle.std.specs.Prelude.{Some, slice_get}
use Rattle.agg_model.specs.declared.aggregation.Agg.{Agg}
use Rattle.agg_evaluation.specs.Whole.{empty_node}
use Rattle.collect_tree.specs.Tops.{AreNodes, IsTopFor}
use Rattle.collect_tree.specs.declared.top_tree.TopTree.{TopTree}
use Rattle.collect_tree.proofs.growth.begin_trees.Given as goal

abbrev pub invariant-loop-place : goal.invariant-loop-place
invariant-loop-place l = record {
  ready : (n : ℕ) (a : Agg) (top : TopTree) → slice_get l.aggs n ≡ Some a → slice_get l.trees.items n ≡ Some top → IsTopFor l.shard a top;
  nodes : AreNodes l.shard l.aggs (λ place a. empty_node a) l.trees.items;
  many : length l.trees.items ≡ l.place;
}
