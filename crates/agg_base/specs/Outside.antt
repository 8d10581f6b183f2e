-- The counts of faults of a source and of a sink. A count stands still at the last value of 64 bits.
use Rattle.std.specs.Prelude.{ℕ, ◌+◌, ◌≤◌, min}

-- 2 ^ 64 - 1
abbrev pub last_count : ℕ
last_count = 18446744073709551615

-- a count after one more
abbrev pub one_more : ℕ → ℕ
one_more count = min (count + 1) last_count

-- the count rose, or stands at its last value
abbrev pub Rose : ℕ → ℕ → Type 0
Rose old new = one_more old ≤ new
