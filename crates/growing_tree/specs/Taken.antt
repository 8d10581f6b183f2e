-- Metrics of values that were taken one after another (Elasticsearch Reference 8, 'Metrics aggregations').
use Rattle.std.specs.Prelude.{◌≡◌, List}
use Rattle.agg_model.specs.declared.partial.Metric.{Metric}
use Rattle.agg_model.specs.declared.row.Scalar.{Scalar}
use Rattle.agg_evaluation.specs.Shard.{metric_of}
use Rattle.metric_agg.specs.Bounded.{IsBounded}

-- it is the metric of some values
pub record IsTaken (metric : Metric) : Type 0 where
  pub seen : List Scalar
  pub is : metric ≡ metric_of seen
  pub bounded : IsBounded metric
