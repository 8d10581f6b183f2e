use Rattle.std.proofs.Common.{◌≡◌, ◌≢◌, ℕ, take}
use Rattle.agg_evaluation.specs.Rows.{row_of}
use Rattle.growing_tree.specs.Measures.{metrics_at, metrics_with}
use Rattle.growing_tree.proofs.measured.take_in_columns.Given as goal

abbrev pub invariant-loop-child : goal.invariant-loop-child
invariant-loop-child l = record {
  here : metrics_at l.columns.items l.place ≡ metrics_with (take l.child l.aggs) (row_of l.shard.rows l.row) (metrics_at l.fn.columns.items l.place);
  others : (n : ℕ) → n ≢ l.place → metrics_at l.columns.items n ≡ metrics_at l.fn.columns.items n;
}
