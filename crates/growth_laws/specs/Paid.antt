-- What a task makes of a breaker by the amounts that it charges and gives back (Elasticsearch Reference 8, 'Circuit breaker
-- settings').
use Rattle.std.specs.Prelude.{◌≡◌, ◌⊎◌, ℕ, ℤ, pos, ◌+ℤ◌, ◌≤ℤ◌, ◌+◌, ◌≤◌, min, List}
use Rattle.agg_evaluation.specs.Shard.{int_sum}
use Rattle.agg_evaluation.specs.Trace.{sum_before}
use Rattle.growth_laws.specs.Amounts.{charged}

-- a breaker as a task sees it: what it holds there, all that it was granted there, and the most that it held there
pub record Standing : Type 0 where
  pub hold : ℕ
  pub granted : ℕ
  pub most : ℕ

-- a total of granted amounts stops at 2 ^ 64 - 1
abbrev pub granted_total : ℕ → ℕ
granted_total n = min n 18446744073709551615

-- The amounts made of the first standing the second, and after each of them the hold was within the limit. The most is no
-- more than it was, or than what was held after some of them.
pub record IsPaid (limit : ℕ) (before after : Standing) (ns : List ℤ) : Type 0 where
  pub held : pos after.hold ≡ pos before.hold +ℤ int_sum ns
  pub granted_is : after.granted ≡ granted_total (before.granted + charged ns)
  pub within : (n : ℕ) → (pos before.hold +ℤ sum_before ns n) ≤ℤ pos limit
  pub most_is : (after.most ≤ before.most)
      ⊎ ((n : ℕ) × (pos after.most ≤ℤ (pos before.hold +ℤ sum_before ns n)))
