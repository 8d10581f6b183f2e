use Rattle.std.proofs.Common.{◌≡◌, map, take}
use Rattle.agg_evaluation.specs.Keys.{source_keys}
use Rattle.agg_evaluation.specs.Rows.{row_of}
use Rattle.composite_agg.specs.Odometer.{AreAtStart, wheel_keys}
use Rattle.composite_agg.proofs.odometer.wheels_of.Given as goal

abbrev pub invariant-loop-source : goal.invariant-loop-source
invariant-loop-source l = record {
  keys : map wheel_keys l.wheels.items ≡ map (source_keys (row_of l.shard.rows l.row)) (take l.source-index l.sources);
  start : AreAtStart l.wheels.items;
}
