use Rattle.std.proofs.Common.{◌≡◌, ℕ, length}
use Rattle.nested_agg.specs.Ends.{AreEnds}
use Rattle.growing_tree.specs.SideBySide.{AreCharges}
use Rattle.growing_tree.proofs.Rises.{IsRising}
use Rattle.growing_tree.proofs.beneath_roots.share_out.Given as goal

abbrev pub invariant-loop-place : goal.invariant-loop-place
invariant-loop-place l = record {
  start : (end_of : ℕ → ℕ) → AreEnds end_of l.ends → l.start ≡ end_of l.place;
  many : length l.added.items ≡ length l.fn.added.items;
  rising : (cost_at end_of : ℕ → ℕ) → AreCharges cost_at l.amounts → AreEnds end_of l.ends → IsRising (λ n. cost_at (end_of n)) l.place l.fn.added.items l.added.items;
}
