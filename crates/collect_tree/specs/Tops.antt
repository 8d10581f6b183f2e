-- The trees of the aggregations at the top of a search (Elasticsearch Reference 8, 'Aggregations').
use Rattle.std.specs.Prelude.{◌≡◌, ℕ, List, [], ◌∷◌, Some, length, slice_get}
use Rattle.agg_model.specs.declared.aggregation.Agg.{Agg, out-Agg}
use Rattle.agg_model.specs.declared.partial.Node.{Node}
use Rattle.agg_evaluation.specs.Cost.{node_cost}
use Rattle.composite_agg.specs.Sources.{IsComposite}
use Rattle.growing_page.specs.GrowingPages.{IsPageOf, decoders, page_node}
use Rattle.growing_page.specs.declared.page.Page.{Page}
use Rattle.growing_tree.specs.Decoded.{decoded}
use Rattle.growing_tree.specs.Readiness.{AreReadyFor, IsReadyFor}
use Rattle.growing_tree.specs.declared.ready.Ready.{Ready}
use Rattle.growth_laws.specs.Cutting.{cut_tree}
use Rattle.shard_columns.specs.Columns.{Columns}
use Rattle.collect_tree.specs.declared.top_tree.TopTree.{TopTree}
use Rattle.collect_tree.specs.declared.top_tree.TopTree.TheVariants as top

-- the page was begun for the composite aggregation, and its children were prepared
pub record IsPageFor (shard : Columns) (a : Agg) (children : List Ready) (page : Page) : Type 0 where
  pub ready : AreReadyFor shard (out-Agg a).children children
  pub composite : IsComposite (out-Agg a).kind
  pub filled : IsPageOf (out-Agg a).kind (decoders shard children) page

-- the tree with its keys
abbrev pub top_node : Columns → TopTree → Node
top_node shard (top.Tree ready tree) = decoded shard ready tree
top_node shard (top.Page children page) = page_node (decoders shard children) page

-- it was prepared for the aggregation
abbrev pub IsTopFor : Columns → Agg → TopTree → Type 0
IsTopFor shard a (top.Tree ready tree) = IsReadyFor shard a ready
IsTopFor shard a (top.Page children page) = IsPageFor shard a children page

abbrev pub top_cost : Columns → TopTree → ℕ
top_cost shard tree = node_cost (top_node shard tree)

-- one tree for each aggregation, prepared for it
pub record AreTopsFor (shard : Columns) (aggs : List Agg) (tops : List TopTree) : Type 0 where
  pub count : length tops ≡ length aggs
  pub each : (n : ℕ) (a : Agg) (tree : TopTree) → slice_get aggs n ≡ Some a → slice_get tops n ≡ Some tree → IsTopFor shard a tree

-- the trees are these nodes, which `node_at` gives by place and aggregation
abbrev pub AreNodes : Columns → List Agg → (ℕ → Agg → Node) → List TopTree → Type 0
AreNodes shard aggs node_at tops =
    (n : ℕ) (a : Agg) (tree : TopTree) → slice_get aggs n ≡ Some a → slice_get tops n ≡ Some tree → top_node shard tree ≡ node_at n a

-- the trees with the terms of each level cut
abbrev pub cut_tops : Columns → List Agg → List TopTree → List Node
cut_tops shard [] tops = []
cut_tops shard (a ∷ aggs) [] = []
cut_tops shard (a ∷ aggs) (tree ∷ tops) = cut_tree a (top_node shard tree) ∷ cut_tops shard aggs tops
