use Rattle.std.proofs.Common.{◌≡◌, length, take}
use Rattle.agg_model.specs.declared.aggregation.Agg.{out-Agg, size-Agg}
use Rattle.growing_tree.specs.Readiness.{AreReadyFor, IsKindReady}
use Rattle.growing_tree.proofs.preparing.+prepare_within.Given as goal

abbrev pub invariant-loop-child : goal.invariant-loop-child
invariant-loop-child l = record {
  kind : IsKindReady l.shard (out-Agg l.agg).kind l.kind;
  ready : AreReadyFor l.shard (take l.child-index l.child-items) l.children;
  many : length l.children ≡ l.child-index;
}

abbrev pub decreases-prepare_within : goal.decreases-prepare_within
decreases-prepare_within l = size-Agg l.agg.now
