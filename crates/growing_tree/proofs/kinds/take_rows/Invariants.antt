use Rattle.std.proofs.Common.{◌≡◌, map, take}
use Rattle.agg_evaluation.specs.Rows.{row_of}
use Rattle.growth_laws.specs.Gathering.{gathered_metric}
use Rattle.growing_tree.proofs.kinds.take_rows.Given as goal

abbrev pub invariant-loop-row : goal.invariant-loop-row
invariant-loop-row l = l.taken ≡ gathered_metric l.kind (map (row_of l.shard.rows) (take l.row-index l.rows)) l.initial.taken
