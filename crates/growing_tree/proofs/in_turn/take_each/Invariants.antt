use Rattle.std.proofs.Common.{◌≡◌, ◌≤◌, ℕ, take}
use Rattle.agg_evaluation.specs.Cost.{node_cost}
use Rattle.growing_tree.specs.Decoded.{decoded}
use Rattle.growing_tree.specs.Gathered.{rows_at}
use Rattle.growing_tree.specs.GatheredEach.{after_each, cost_after, gathered_one}
use Rattle.growing_tree.proofs.in_turn.take_each.Given as goal

abbrev pub invariant-loop-place : goal.invariant-loop-place
invariant-loop-place l = record {
  tree : decoded l.shard l.ready l.tree ≡ after_each (gathered_one l.shard.rows l.agg) (take l.place (rows_at l.shard l.rows)) (decoded l.shard l.ready l.fn.tree);
  cost : (n : ℕ) → n ≤ l.place → cost_after (gathered_one l.shard.rows l.agg) (rows_at l.shard l.rows) (decoded l.shard l.ready l.fn.tree) n ≡ node_cost (decoded l.shard l.ready l.fn.tree);
}
