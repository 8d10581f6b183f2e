use Rattle.std.proofs.Common.{◌≡◌, ◌+◌, ◌++◌, List, map, take}
use Rattle.agg_model.specs.declared.row.Scalar.{Scalar}
use Rattle.agg_model.specs.declared.row.Scalar.TheVariants.{Whole}
use Rattle.agg_evaluation.specs.Shard.{metric_of}
use Rattle.metric_agg.specs.Bounded.{IsBounded}
use Rattle.metric_agg.proofs.taking.take_numbers.Given as goal

abbrev pub invariant-loop-number : goal.invariant-loop-number
invariant-loop-number l = record {
  values : (seen : List Scalar) → l.initial.metric ≡ metric_of seen → l.metric ≡ metric_of (seen ++ take l.number-index (map Whole l.numbers));
  count : l.metric.count ≡ l.initial.metric.count + l.number-index;
  bounded : IsBounded l.metric;
}
