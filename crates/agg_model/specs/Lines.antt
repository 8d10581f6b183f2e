-- Input as lines, and which of them are too long (POSIX.1-2017 Base Definitions 3.206 'Line', where the last line needs no
-- newline; newline-delimited JSON).
use Rattle.std.specs.Prelude.{ℕ, ◌+◌, ◌==◌, Bool, nat_lt, min, List, [], ◌∷◌, if◌then◌else◌}
use Rattle.agg_model.specs.declared.limits.TheConstants.{MAX_INPUT, MAX_LINE}

-- `\n`
abbrev pub newline : ℕ
newline = 10

-- a line without its newline, and how many bytes of input it takes
pub record Line : Type 0 where
  pub text : List ℕ
  pub size : ℕ

-- a byte in front of the first line
abbrev pub with_byte : ℕ → List Line → List Line
with_byte b [] = record { text = b ∷ []; size = 1 } ∷ []
with_byte b (l ∷ ls) = record { text = b ∷ l.text; size = 1 + l.size } ∷ ls

-- a newline ends a line; a last line without it counts
unfoldable pub lines : List ℕ → List Line
lines [] = []
lines (b ∷ bs) = if b == newline then record { text = []; size = 1 } ∷ lines bs else with_byte b (lines bs)

-- byte MAX_INPUT + 1 of the input lies in a line of this size, before which stand `before` bytes, at or before the line's
-- own byte MAX_LINE + 1
abbrev pub is_beyond_input : ℕ → ℕ → Bool
is_beyond_input before size = nat_lt MAX_INPUT (before + min size (MAX_LINE + 1))

-- a line of so many bytes, without its newline, is too long
abbrev pub is_too_long : ℕ → Bool
is_too_long bytes = nat_lt MAX_LINE bytes
