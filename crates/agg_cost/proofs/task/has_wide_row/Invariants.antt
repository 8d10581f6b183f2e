use Rattle.std.proofs.Common.{◌≡◌, false, length, take}
use Rattle.std.specs.Prelude.{nat_lt}
use Rattle.std.specs.List.{list_any}
use Rattle.agg_evaluation.specs.Ceiling.{greatest_combinations}
use Rattle.agg_evaluation.specs.Keys.{keys}
use Rattle.agg_evaluation.specs.Rows.{row_of}
use Rattle.agg_cost.proofs.task.has_wide_row.Given as goal

abbrev pub invariant-loop-from : goal.invariant-loop-from
invariant-loop-from l =
    list_any (λ r. nat_lt greatest_combinations (length (keys l.shard.rows l.composite (row_of l.shard.rows r.row)))) (take l.from-index l.reached) ≡ false
