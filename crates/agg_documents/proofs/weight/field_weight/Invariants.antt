use Rattle.std.proofs.Common.{◌≡◌, ◌-◌, ◌^◌, min, take}
use Rattle.std.specs.List.{sum_by}
use Rattle.agg_model.specs.Weight.{scalar_weight}
use Rattle.agg_documents.proofs.weight.field_weight.Given as goal

-- the weight is that of the values so far
abbrev pub invariant-loop-value : goal.invariant-loop-value
invariant-loop-value l = l.weight ≡ min (sum_by scalar_weight (take l.value-index l.value-items)) (2 ^ 64 - 1)
