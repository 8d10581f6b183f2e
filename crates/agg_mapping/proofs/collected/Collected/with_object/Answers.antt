use Rattle.std.proofs.Common.{ℕ, List, []}
use Rattle.agg_mapping.specs.Arranged.{arranged}
use Rattle.agg_reading.proofs.PathOrder.{sorted-last}
use Rattle.agg_mapping.proofs.collected.Collected.with_object.Goals as goal

pub returns : goal.returns
unfolding arranged
returns c = rw (c.in_ok-push.ensures.ok, sorted-last (λ (p : List ℕ). p) c.args.self.objects, c.in_ok-of.ensures)
