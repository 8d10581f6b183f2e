use Rattle.std.proofs.Common.{◌≡◌, [], All, length}
use Rattle.growing_tree.proofs.measured.no_columns.Given as goal

abbrev pub invariant-loop-column : goal.invariant-loop-column
invariant-loop-column l = record {
  many : length l.columns.items ≡ l._column;
  empty : All (λ column. column.items ≡ []) l.columns.items;
}
