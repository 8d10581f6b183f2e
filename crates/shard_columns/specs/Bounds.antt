-- How many of some numbers or words, which ascend, are below a bound.
use Rattle.std.specs.Prelude.{◌≡◌, ℕ, nat_lt, Bool, true, false, List}
use Rattle.std.specs.List.Sorted.{IsPartitionPoint}
use Rattle.std.specs.Ordering.{nat_cmp, is_lt}
use Rattle.std.specs.Cmp.Lexicographic.{slice_cmp}

-- so many numbers are below the bound, and the others are not
abbrev pub AreBelow : List ℕ → ℕ → ℕ → Type 0
AreBelow numbers bound count = IsPartitionPoint (λ n. nat_lt n bound ≡ true) (λ n. nat_lt n bound ≡ false) numbers count

-- whether a word is before another, in the order of their bytes
abbrev pub is_before : List ℕ → List ℕ → Bool
is_before one other = is_lt (slice_cmp nat_cmp one other)

-- so many words are before the bound, and the others are not
abbrev pub AreBefore : List (List ℕ) → List ℕ → ℕ → Type 0
AreBefore words bound count = IsPartitionPoint (λ w. is_before w bound ≡ true) (λ w. is_before w bound ≡ false) words count
