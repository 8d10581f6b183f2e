use Rattle.std.proofs.Common.{length, map, sum_by, take}
use Rattle.agg_evaluation.specs.Rows.{row_of}
use Rattle.agg_model.specs.declared.aggregation.Agg.{Agg}
use Rattle.agg_model.specs.declared.partial.Node.{Node}
use Rattle.growing_tree.specs.GatheredEach.{after_each, cost_after}
use Rattle.collect_tree.specs.Blocks.{AreChanges}
use Rattle.collect_tree.specs.Phases.{with_one}
use Rattle.collect_tree.specs.Tops.{AreNodes, AreTopsFor}
use Rattle.collect_tree.proofs.Tops.{so_far}
use Rattle.collect_tree.proofs.growth.collect_in_all.Given as goal

-- the trees before the place have the roots, and the others are as before
abbrev pub invariant-loop-place : goal.invariant-loop-place
invariant-loop-place l = record {
  ready : AreTopsFor l.shard l.aggs l.trees.items;
  nodes : (before : Agg → Node) → AreNodes l.shard l.aggs (λ place a. before a) l.fn.trees.items
      → AreNodes l.shard l.aggs (λ place a. so_far l.place place (after_each (with_one l.phase l.shard.rows a) (map (row_of l.shard.rows) l.rows) (before a)) (before a)) l.trees.items;
  changes : (before : Agg → Node) → AreNodes l.shard l.aggs (λ place a. before a) l.fn.trees.items
      → AreChanges (λ n. sum_by (λ a. cost_after (with_one l.phase l.shard.rows a) (map (row_of l.shard.rows) l.rows) (before a) n) (take l.place l.aggs)) (length l.rows) l.fn.added.items l.fn.removed.items l.added.items l.removed.items;
}
