use Rattle.std.proofs.Common.{◌≡◌, take}
use Rattle.growing_tree.specs.Decoded.{decoded}
use Rattle.growing_tree.specs.Gathered.{rows_at}
use Rattle.growing_tree.specs.GatheredEach.{after_each, cost_after, counted_one}
use Rattle.growing_tree.proofs.Rises.{IsRising}
use Rattle.growing_tree.proofs.in_turn.count_in_turn.Given as goal

abbrev pub invariant-loop-place : goal.invariant-loop-place
invariant-loop-place l = record {
  tree : decoded l.shard l.ready l.tree ≡ after_each (counted_one l.shard.rows l.agg) (take l.place (rows_at l.shard l.rows)) (decoded l.shard l.ready l.fn.tree);
  rising : IsRising (cost_after (counted_one l.shard.rows l.agg) (rows_at l.shard l.rows) (decoded l.shard l.ready l.fn.tree)) l.place l.fn.added.items l.added.items;
}
