use Rattle.std.proofs.Common.{◌≡◌, ◌+◌, ◌-◌, ◌^◌, min, take}
use Rattle.std.specs.List.{sum_by}
use Rattle.agg_model.specs.declared.row.Row.{out-Row}
use Rattle.agg_reading.specs.Store.{row_weight, children_weight}
use Rattle.agg_model.specs.Weight.{field_weight}
use Rattle.agg_documents.proofs.weight.+weight.Given as goal

-- the weight is that of the row itself, its values, and the children so far
abbrev pub invariant-row_weight-loop-children : goal.invariant-row_weight-loop-children
invariant-row_weight-loop-children l = l.weight ≡ min (1 + sum_by field_weight (out-Row l.row).values + sum_by children_weight (take l.children-index l.children-items)) (2 ^ 64 - 1)

-- the weight is that of the rows so far
abbrev pub invariant-children_weight-loop-row : goal.invariant-children_weight-loop-row
invariant-children_weight-loop-row l = l.weight ≡ min (sum_by row_weight (take l.row-index l.row-items)) (2 ^ 64 - 1)
