-- An output, as its listeners know it: the number of its next line, and where they stand. The program's own.
use Rattle.std.specs.Prelude.{ℕ, ◌+◌, List, min}
use Rattle.agg_listen.specs.Standing.{Standing}

-- lines are numbered from 1
pub record Hearing : Type 0 where
  pub line : ℕ
  pub listeners : List Standing

-- 2 ^ 64 - 1
abbrev pub last_number : ℕ
last_number = 18446744073709551615

-- the number of the line behind this one; the last number stands still
abbrev pub next_line : ℕ → ℕ
next_line line = min (line + 1) last_number
