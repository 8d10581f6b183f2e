use Rattle.std.proofs.Common.{◌≡◌, map, take}
use Rattle.histogram_agg.specs.Codes.{key_of}
use Rattle.histogram_agg.proofs.row_keys.keys.Given as goal

abbrev pub invariant-loop-code : goal.invariant-loop-code
invariant-loop-code l = l.keys ≡ map (key_of l.prepared) (take l.code-index l.code-items)
