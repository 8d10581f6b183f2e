use Rattle.std.proofs.Common.{◌≡◌, [], take}
use Rattle.std.specs.Prelude.{flat_map}
use Rattle.agg_evaluation.specs.Keys.{distinct_keys}
use Rattle.agg_evaluation.specs.Rows.{values_of, row_of}
use Rattle.composite_agg.specs.Sources.{part_keys}
use Rattle.composite_agg.proofs.odometer.first_part.Given as goal

-- the values so far give no part
abbrev pub invariant-loop-place : goal.invariant-loop-place
invariant-loop-place l = distinct_keys (flat_map (part_keys l.source) (take l.place (values_of l.source.field (row_of l.shard.rows l.row)))) ≡ []
