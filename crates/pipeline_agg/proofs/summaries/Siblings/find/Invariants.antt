use Rattle.std.proofs.Common.{◌≡◌}
use Rattle.pipeline_agg.proofs.summaries.Siblings.find.Given as goal

-- those that are looked at are those that are known
abbrev pub invariant-loop-place : goal.invariant-loop-place
invariant-loop-place l = l.known-items ≡ l.self.known.items
