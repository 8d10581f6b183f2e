use Rattle.std.proofs.Common.{◌≡◌, ◌∷◌, map, take}
use Rattle.std.specs.Prelude.{flat_map}
use Rattle.agg_evaluation.specs.Keys.{distinct_keys}
use Rattle.agg_evaluation.specs.Rows.{values_of, row_of}
use Rattle.composite_agg.specs.Parts.{key_of_part}
use Rattle.composite_agg.specs.Sources.{part_keys}
use Rattle.composite_agg.proofs.odometer.begin_wheel.Given as goal

abbrev pub invariant-loop-place : goal.invariant-loop-place
invariant-loop-place l = key_of_part l.first ∷ map key_of_part l.later.items ≡ distinct_keys (flat_map (part_keys l.source) (take l.place (values_of l.source.field (row_of l.shard.rows l.row))))
