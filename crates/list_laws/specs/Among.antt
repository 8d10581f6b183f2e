-- Numbers that stand each at most once among the first ones.
use Rattle.std.specs.Prelude.{ℕ, ◌≤◌, List, sum_by}
use Rattle.std.specs.List.{range_with_len}

-- whatever each number weighs, these weigh at most what the first n do
abbrev pub AreAmong : ℕ → List ℕ → Type 0
AreAmong n ns = (f : ℕ → ℕ) → sum_by f ns ≤ sum_by f (range_with_len 0 n)
