use Rattle.std.proofs.Common.{◌≡◌, map}
use Rattle.agg_reading.specs.Mapping.{numbered_field}
use Rattle.agg_mapping.proofs.numbering.numbered_fields.Given as goal

abbrev pub invariant-loop-field : goal.invariant-loop-field
invariant-loop-field l = l.all ≡ map (numbered_field l.nested) l.yielded
