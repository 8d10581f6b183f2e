-- Batches of one size ('Search API': `batched_reduce_size`).
use Rattle.std.specs.Prelude.{ℕ, ◌+◌, ◌-◌, ◌/◌, ◌≤◌, ⊤, List, [], ◌∷◌}

-- of some batches' sizes all but the last are so much at least
abbrev pub AreFull : ℕ → List ℕ → Type 0
AreFull size [] = ⊤
AreFull size (n ∷ []) = ⊤
AreFull size (n ∷ m ∷ ns) = (size ≤ n) × AreFull size (m ∷ ns)

-- how many batches of a size so many tasks have; the last may be short
abbrev pub batch_count : ℕ → ℕ → ℕ
batch_count n size = (n + size - 1) / size
