use Rattle.std.proofs.Common.{◌≡◌, ◌≤◌, ◌+◌, ℕ}
use Rattle.growing_tree.specs.SideBySide.{AreCharges}
use Rattle.growing_tree.proofs.beneath_roots.total.Given as goal

abbrev pub invariant-loop-place : goal.invariant-loop-place
invariant-loop-place l = record {
  ordered : l.place ≤ l.end;
  costs : (cost_at : ℕ → ℕ) → AreCharges cost_at l.amounts → cost_at l.place ≡ cost_at l.start + l.total;
}
