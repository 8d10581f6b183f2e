-- Paths of keys that lead to the rows of a shard (Elasticsearch Reference 8, 'Circuit breaker settings').
use Rattle.std.specs.Prelude.{ℕ, ◌*◌, ◌<◌, List, map, sum_by, All}
use Rattle.agg_evaluation.specs.Ceiling.{Reached}
use Rattle.agg_evaluation.specs.Rows.{PlacedRow, row_of}
use Rattle.agg_cost.specs.Capped.{Alike}
use Rattle.agg_cost.specs.declared.paths.RowPaths.{RowPaths}

-- the rows of these numbers, with their paths
abbrev pub reached_by : List PlacedRow → List RowPaths → List Reached
reached_by rows reached = map (λ r. (row_of rows r.row, r.paths)) reached

-- an amount for each path, by its row
abbrev pub over_paths : (PlacedRow → ℕ) → List Reached → ℕ
over_paths amount reached = sum_by (λ r. r.1 * amount r.0) reached

-- whatever each row stands for, paths to it come to the same, as far as 64 bits tell
abbrev pub AreAlike : List Reached → List Reached → Type 0
AreAlike rs qs = (amount : PlacedRow → ℕ) → Alike (over_paths amount rs) (over_paths amount qs)

-- the rows are among so many
abbrev pub AreBelow : ℕ → List RowPaths → Type 0
AreBelow n reached = All (λ r. r.row < n) reached
