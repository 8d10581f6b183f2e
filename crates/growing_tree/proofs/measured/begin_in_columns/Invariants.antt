use Rattle.std.proofs.Common.{◌≡◌, ℕ, take, map, length}
use Rattle.growing_tree.specs.Measures.{metrics_at, no_values}
use Rattle.growing_tree.proofs.measured.begin_in_columns.Given as goal

abbrev pub invariant-loop-child : goal.invariant-loop-child
invariant-loop-child l = record {
  here : take l.child (metrics_at l.fn.columns.items l.place) ≡ map (λ column. no_values) (take l.child l.fn.columns.items);
  same : (n : ℕ) → metrics_at l.columns.items n ≡ metrics_at l.fn.columns.items n;
  many : length l.columns.items ≡ length l.fn.columns.items;
}
