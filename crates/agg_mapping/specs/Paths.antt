-- The first item with a path (Elasticsearch Reference 8, 'Mapping').
use Rattle.std.specs.Prelude.{ℕ, ◌+◌, List, [], ◌∷◌, Option, Some, None, if◌then◌else◌}
use Rattle.std.specs.Str.{bytes_eq}

-- the first item with this path and its place, counted from n
unfoldable pub first_from : {A : Type 0} → (A → List ℕ) → ℕ → List A → List ℕ → Option (ℕ × A)
first_from path_of n [] path = None
first_from path_of n (x ∷ xs) path = if bytes_eq (path_of x) path then Some (n, x) else first_from path_of (n + 1) xs path
