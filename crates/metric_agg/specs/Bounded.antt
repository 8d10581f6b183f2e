-- How far a sum can be from zero: no number has more than 64 bits (Elasticsearch Reference 8, 'Numeric field types').
use Rattle.std.specs.Prelude.{pos, ◌*◌, ◌^◌, ◌+ℤ◌, ◌≤ℤ◌}
use Rattle.agg_model.specs.declared.partial.Metric.{Metric}

-- the sum lies within 2^63 times the number of values, on both sides of zero
pub record IsBounded (metric : Metric) : Type 0 where
  pub least : pos 0 ≤ℤ (metric.sum +ℤ pos (2 ^ 63 * metric.count))
  pub greatest : metric.sum ≤ℤ pos (2 ^ 63 * metric.count)
