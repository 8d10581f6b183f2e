use Rattle.std.proofs.Common.{◌≡◌, ◌-◌, ◌^◌, min, take}
use Rattle.std.specs.List.{sum_by}
use Rattle.agg_model.specs.Weight.{field_weight}
use Rattle.agg_documents.proofs.weight.values_weight.Given as goal

-- the weight is that of the fields so far
abbrev pub invariant-loop-field : goal.invariant-loop-field
invariant-loop-field l = l.weight ≡ min (sum_by field_weight (take l.field-index l.field-items)) (2 ^ 64 - 1)
