use Rattle.std.proofs.Common.{◌≡◌, ◌∷◌, [], take, sum_by}
use Rattle.agg_evaluation.specs.Cost.{node_cost}
use Rattle.agg_evaluation.specs.Rows.{row_of}
use Rattle.growth_laws.specs.Gathering.{gathered_children}
use Rattle.growing_tree.specs.Gathered.{gatherers, shown_children}
use Rattle.growing_tree.proofs.lone_rows.take_in_children.Given as goal

abbrev pub invariant-loop-place : goal.invariant-loop-place
invariant-loop-place l = record {
  trees : shown_children l.shard l.ready l.children.items ≡ gathered_children (take l.place (gatherers l.shard l.aggs)) (row_of l.shard.rows l.row ∷ []) (shown_children l.shard l.ready l.fn.children.items);
  cost : sum_by node_cost (shown_children l.shard l.ready l.children.items) ≡ sum_by node_cost (shown_children l.shard l.ready l.fn.children.items);
}
