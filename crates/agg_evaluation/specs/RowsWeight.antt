-- The weight of rows: their number, the number of their values and the bytes of their words.
use Rattle.std.specs.Prelude.{ℕ, ◌+◌, List, sum_by}
use Rattle.agg_evaluation.specs.Rows.{PlacedRow}
use Rattle.agg_model.specs.Weight.{field_weight}

abbrev pub row_weight : PlacedRow → ℕ
row_weight row = 1 + sum_by field_weight row.values

abbrev pub rows_weight : List PlacedRow → ℕ
rows_weight rows = sum_by row_weight rows
