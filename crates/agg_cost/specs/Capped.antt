-- Numbers that stop at the greatest of 64 bits.
use Rattle.std.specs.Prelude.{◌≡◌, ℕ, ◌^◌, ◌-◌, min}

-- the number, or the greatest of 64 bits where it is above that
abbrev pub capped : ℕ → ℕ
capped n = min n (2 ^ 64 - 1)

-- the same number, as far as 64 bits tell
abbrev pub Alike : ℕ → ℕ → Type 0
Alike m n = capped m ≡ capped n
