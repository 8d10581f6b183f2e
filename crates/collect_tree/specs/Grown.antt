-- The trees of a task after some roots (Elasticsearch Reference 8, 'Aggregations').
use Rattle.std.specs.Prelude.{◌≡◌, ℕ, sum_by}
use Rattle.agg_model.specs.declared.aggregation.Search.{Search}
use Rattle.growth_laws.specs.Steps.{tree_after}
use Rattle.shard_columns.specs.Columns.{Columns}
use Rattle.collect_tree.specs.Tops.{AreNodes, AreTopsFor, top_cost}
use Rattle.collect_tree.specs.declared.growth.Growth.{Growth}

-- the trees of the search after so many collected roots, with what they cost together
pub record HasGrown (shard : Columns) (search : Search) (n : ℕ) (g : Growth) : Type 0 where
  pub ready : AreTopsFor shard search.aggs g.trees.items
  pub nodes : AreNodes shard search.aggs (λ place a. tree_after search shard.rows a n) g.trees.items
  pub bytes_are : g.bytes ≡ sum_by (top_cost shard) g.trees.items
