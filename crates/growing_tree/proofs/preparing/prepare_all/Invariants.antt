use Rattle.std.proofs.Common.{◌≡◌, length, take}
use Rattle.growing_tree.specs.Readiness.{AreReadyFor}
use Rattle.growing_tree.proofs.preparing.prepare_all.Given as goal

abbrev pub invariant-loop-agg : goal.invariant-loop-agg
invariant-loop-agg l = record {
  ready : AreReadyFor l.shard (take l.agg-index l.agg-items) l.all;
  many : length l.all ≡ l.agg-index;
}
