use Rattle.std.proofs.Common.{◌≡◌, ◌+◌, ◌++◌, List, take}
use Rattle.agg_model.specs.declared.row.Scalar.{Scalar}
use Rattle.agg_evaluation.specs.Rows.{values_of, row_of}
use Rattle.agg_evaluation.specs.Shard.{metric_of}
use Rattle.metric_agg.specs.Bounded.{IsBounded}
use Rattle.metric_agg.proofs.taking.take.Given as goal

abbrev pub invariant-loop-place : goal.invariant-loop-place
invariant-loop-place l =
    ((seen : List Scalar) → l.initial.metric ≡ metric_of seen → l.metric ≡ metric_of (seen ++ take l.place (values_of l.field (row_of l.shard.rows l.row))))
    × (l.metric.count ≡ l.initial.metric.count + l.place)
    × IsBounded l.metric
