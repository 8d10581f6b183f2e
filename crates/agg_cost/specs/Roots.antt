-- Roots that the aggregations at the top of a search collect (Elasticsearch Reference 8, 'Global aggregation').
use Rattle.std.specs.Prelude.{Bool, true, false, List, map}
use Rattle.agg_evaluation.specs.Ceiling.{Reached}
use Rattle.agg_evaluation.specs.Rows.{PlacedRow, roots}

-- one path to each row
abbrev pub once_each : List PlacedRow → List Reached
once_each rows = map (λ row. (row, 1)) rows

-- all roots at a global aggregation, and else those that the query matches
abbrev pub collected_by : Bool → List PlacedRow → List Reached → List Reached
collected_by true rows matched = once_each (roots rows)
collected_by false rows matched = matched
