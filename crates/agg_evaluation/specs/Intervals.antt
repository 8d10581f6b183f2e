-- The one multiple that is the key of a value in a histogram (Elasticsearch Reference 8, 'Histogram aggregation': values are
-- rounded down to the closest bucket).
use Rattle.std.specs.Prelude.{◌≡◌, ℕ, ℤ, pos, ◌+ℤ◌, ◌*ℤ◌, ◌≤ℤ◌, ◌<ℤ◌}

-- the key is a multiple of the interval plus the offset, is at most the value, and the next such multiple is above it
pub record IsIntervalOf (interval offset : ℕ) (value key : ℤ) : Type 0 where
  pub times : ℤ
  pub multiple : key ≡ (times *ℤ pos interval) +ℤ pos offset
  pub at_most : key ≤ℤ value
  pub above : value <ℤ (key +ℤ pos interval)
