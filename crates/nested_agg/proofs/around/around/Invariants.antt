use Rattle.std.proofs.Common.{◌≡◌, ◌<◌, ℕ, length}
use Rattle.agg_evaluation.specs.Counted.{is_around_row}
use Rattle.agg_evaluation.specs.Rows.{row_of}
use Rattle.nested_agg.proofs.around.around.Given as goal

-- the same rows of the context are around both
abbrev pub invariant-loop-inner : goal.invariant-loop-inner
invariant-loop-inner l = record {
  below : l.inner < length l.shard.rows;
  same : (n : ℕ) → n < length l.shard.rows → is_around_row l.context (row_of l.shard.rows l.row) (row_of l.shard.rows n) ≡ is_around_row l.context (row_of l.shard.rows l.inner) (row_of l.shard.rows n);
}

abbrev pub decreases-loop-inner : goal.decreases-loop-inner
decreases-loop-inner l = l.inner
