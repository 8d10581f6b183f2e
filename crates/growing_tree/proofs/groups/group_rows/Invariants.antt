use Rattle.std.proofs.Common.{take}
use Rattle.agg_evaluation.specs.Keys.{keys}
use Rattle.agg_evaluation.specs.Rows.{row_of}
use Rattle.growing_tree.specs.Codes.{code_key}
use Rattle.growing_tree.specs.Grouped.{AreGroups, pairs_of}
use Rattle.growing_tree.proofs.groups.group_rows.Given as goal

abbrev pub invariant-loop-row : goal.invariant-loop-row
invariant-loop-row l = AreGroups (code_key l.shard l.ready) (pairs_of (λ n. keys l.shard.rows l.kind (row_of l.shard.rows n)) (take l.row-index l.rows)) l.places l.groups.items
