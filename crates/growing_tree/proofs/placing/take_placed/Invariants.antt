use Rattle.std.proofs.Common.{◌≡◌, ℕ, take}
use Rattle.agg_evaluation.specs.Rows.{row_of}
use Rattle.growing_tree.specs.Placements.{counts_with, taken_with}
use Rattle.growing_tree.specs.Measures.{metrics_at}
use Rattle.growing_tree.proofs.placing.take_placed.Given as goal

abbrev pub invariant-loop-place : goal.invariant-loop-place
invariant-loop-place l = record {
  counts : l.counts.items ≡ counts_with (take l.place l.placements) l.fn.counts.items;
  metrics : (n : ℕ) → metrics_at l.columns.items n ≡ taken_with l.aggs (row_of l.shard.rows) (take l.place l.placements) (metrics_at l.fn.columns.items) n;
}
