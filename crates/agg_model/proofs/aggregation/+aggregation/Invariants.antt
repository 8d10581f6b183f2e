use Rattle.std.proofs.Common.{◌≡◌, take}
use Rattle.agg_model.proofs.aggregation.+aggregation.Given as goal

-- what was copied is the front of the list
abbrev pub invariant-copy_aggregations-loop-agg : goal.invariant-copy_aggregations-loop-agg
invariant-copy_aggregations-loop-agg l = l.copied ≡ take l.agg-index l.agg-items
