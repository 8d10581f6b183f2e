-- How many values rows have of a field (Elasticsearch Reference 8, 'Value count aggregation').
use Rattle.std.specs.Prelude.{ℕ, List, map, length}
use Rattle.agg_evaluation.specs.Ceiling.{greatest_of}
use Rattle.agg_evaluation.specs.Rows.{PlacedRow, values_of}

-- the greatest number of values that a row has of a field, 0 where none has any
abbrev pub most_values : ℕ → List PlacedRow → ℕ
most_values field rows = greatest_of (map (λ r. length (values_of field r)) rows)
