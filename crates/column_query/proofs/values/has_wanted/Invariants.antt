use Rattle.std.proofs.Common.{◌≡◌, false, take}
use Rattle.std.specs.List.{list_any}
use Rattle.agg_evaluation.specs.Rows.{values_of, row_of}
use Rattle.column_query.specs.Wanted.{wants}
use Rattle.column_query.proofs.values.has_wanted.Given as goal

abbrev pub invariant-loop-place : goal.invariant-loop-place
invariant-loop-place l = list_any (wants l.wanted) (take l.place (values_of l.field (row_of l.shard.rows l.row))) ≡ false
