-- Byte strings behind one another in one list of bytes, by where each ends.
use Rattle.std.specs.Prelude.{◌≡◌, ℕ, ◌≤◌, List, [], ◌∷◌, slice_range}

-- those that end at these places, the first of which begins here
unfoldable pub pieces_from : ℕ → List ℕ → List ℕ → List (List ℕ)
pieces_from start bytes [] = []
pieces_from start bytes (end ∷ more) = slice_range bytes start end ∷ pieces_from end bytes more

-- each ends no earlier than it begins, and the last with the bytes
unfoldable pub AreCut : ℕ → List ℕ → ℕ → Type 0
AreCut start [] size = start ≡ size
AreCut start (end ∷ more) size = (start ≤ end) × AreCut end more size
