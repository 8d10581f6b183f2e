-- Buckets below which there are metrics alone, or nothing (Elasticsearch Reference 8, 'Metrics aggregations').
use Rattle.std.specs.Prelude.{ℕ, suc, pos, List, [], ◌∷◌, None, map, slice_index_or}
use Rattle.std.specs.Global.{Vec}
use Rattle.agg_model.specs.declared.aggregation.Agg.{Agg, out-Agg}
use Rattle.agg_model.specs.declared.partial.Metric.{Metric}
use Rattle.agg_evaluation.specs.Rows.{PlacedRow}
use Rattle.growth_laws.specs.Growth.{metric_with}
use Rattle.growing_tree.specs.declared.measured.Measured.{Measured}

-- the metric of no value
abbrev pub no_values : Metric
no_values = record { count = 0; sum = pos 0; least = None; greatest = None }

-- what a metric has taken in the bucket at a place: no value behind the end of its column
abbrev pub taken_at : Vec Metric → ℕ → Metric
taken_at column place = slice_index_or column.items place no_values

-- the same of the metrics side by side
abbrev pub metrics_at : List (Vec Metric) → ℕ → List Metric
metrics_at columns place = map (λ column. taken_at column place) columns

-- how many rows a bucket has, and what its metrics have taken
pub record Measure : Type 0 where
  pub count : ℕ
  pub metrics : List Metric

-- the buckets from this place on, by the rows of each, and by what their metrics have taken at a place
abbrev pub measures_from : (ℕ → List Metric) → ℕ → List ℕ → List Measure
measures_from at place [] = []
measures_from at place (n ∷ ns) = record { count = n; metrics = at place } ∷ measures_from at (suc place) ns

abbrev pub measures_of : Measured → List Measure
measures_of m = measures_from (metrics_at m.columns.items) 0 m.counts.items

-- metrics with the values of one more row
abbrev pub metrics_with : List Agg → PlacedRow → List Metric → List Metric
metrics_with [] row ms = ms
metrics_with (a ∷ aggs) row [] = []
metrics_with (a ∷ aggs) row (m ∷ ms) = metric_with (out-Agg a).kind row m ∷ metrics_with aggs row ms
