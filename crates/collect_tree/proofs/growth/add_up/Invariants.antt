use Rattle.std.proofs.Common.{◌≡◌, ◌+◌, ◌<◌, ◌≤◌, ℕ, length, get_or}
use Rattle.collect_tree.proofs.growth.add_up.Given as goal

abbrev pub invariant-loop-place : goal.invariant-loop-place
invariant-loop-place l = record {
  many : length l.added.items ≡ length l.fn.added.items;
  rest : (n : ℕ) → l.place ≤ n → get_or l.added.items n 0 ≡ get_or l.fn.added.items n 0;
  last : (cost_at : ℕ → ℕ) → l.fn.cost ≡ cost_at 0
      → ((n : ℕ) → n < length l.fn.added.items → cost_at n + get_or l.fn.added.items n 0 ≡ get_or l.removed n 0 + cost_at (n + 1)) → l.cost ≡ cost_at l.place;
  costs : (cost_at : ℕ → ℕ) → l.fn.cost ≡ cost_at 0
      → ((n : ℕ) → n < length l.fn.added.items → cost_at n + get_or l.fn.added.items n 0 ≡ get_or l.removed n 0 + cost_at (n + 1))
      → (n : ℕ) → n < l.place → get_or l.added.items n 0 ≡ cost_at (n + 1);
}
