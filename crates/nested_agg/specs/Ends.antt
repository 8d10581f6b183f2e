-- Where the rows beneath each of some rows end, when all of them stand in one list.
use Rattle.std.specs.Prelude.{◌≡◌, ◌+◌, ◌<◌, ℕ, List, flat_map, length, slice_index, take}
use Rattle.agg_evaluation.specs.Rows.{PlacedRow, beneath}

-- the rows of a context beneath so many of these
abbrev pub beneath_first : List PlacedRow → ℕ → List PlacedRow → ℕ → List PlacedRow
beneath_first all context rows count = flat_map (beneath all context) (take count rows)

-- each number says where so many parts of a list end, from the first one on
pub record AreEnds (end_of : ℕ → ℕ) (ends : List ℕ) : Type 0 where
  pub first : end_of 0 ≡ 0
  pub each : (n : ℕ) → n < length ends → slice_index ends n ≡ end_of (n + 1)
