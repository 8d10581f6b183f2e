use Rattle.std.proofs.Common.{◌≡◌, map, take}
use Rattle.agg_reading.specs.Mapping.{numbered_path}
use Rattle.agg_mapping.proofs.numbering.numbered_paths.Given as goal

abbrev pub invariant-loop-path : goal.invariant-loop-path
invariant-loop-path l = l.all ≡ map (numbered_path l.nested) (take l.path-index l.nested)
