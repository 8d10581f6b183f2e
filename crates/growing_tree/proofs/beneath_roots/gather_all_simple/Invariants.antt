use Rattle.std.proofs.Common.{◌≡◌, length, take}
use Rattle.growing_tree.specs.Gathered.{gatherers, rows_at, shown_children}
use Rattle.growing_tree.specs.GatheredEach.{AreRises, after_each}
use Rattle.growing_tree.specs.SideBySide.{side_by_side, side_cost}
use Rattle.growing_tree.specs.Steady.{AreSteady}
use Rattle.growing_tree.proofs.beneath_roots.gather_all_simple.Given as goal

abbrev pub invariant-loop-place : goal.invariant-loop-place
invariant-loop-place l = record {
  trees : shown_children l.shard l.ready l.children.items ≡ after_each (side_by_side (take l.place (gatherers l.shard l.aggs))) (rows_at l.shard l.rows) (shown_children l.shard l.ready l.fn.children.items);
  rises : AreRises (side_cost (take l.place (gatherers l.shard l.aggs)) (rows_at l.shard l.rows) (shown_children l.shard l.ready l.fn.children.items)) (length l.rows) l.fn.added.items l.added.items;
  steady : AreSteady (take l.place (gatherers l.shard l.aggs)) (shown_children l.shard l.ready l.fn.children.items);
}
