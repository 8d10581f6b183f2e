use Rattle.std.specs.Prelude.{◌≡◌, ◌≤◌, flat_map, fold, length, take}
use Rattle.cache_spec.specs.Hashing.{name_input}
use Rattle.cache_spec.proofs.hashing.hash_names.Given as goal

abbrev pub invariant-loop-i : goal.invariant-loop-i
invariant-loop-i g l = (l.i ≤ length l.aggs) × (l.state ≡ fold g.H.Hasher.write l.initial.state (flat_map name_input (take l.i l.aggs)))
