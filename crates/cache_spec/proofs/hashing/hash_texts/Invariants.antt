use Rattle.std.specs.Prelude.{◌≡◌, ◌≤◌, flat_map, fold, length, take}
use Rattle.std.specs.Hash.{str}
use Rattle.cache_spec.proofs.hashing.hash_texts.Given as goal

abbrev pub invariant-loop-i : goal.invariant-loop-i
invariant-loop-i g l = (l.i ≤ length l.texts) × (l.state ≡ fold g.H.Hasher.write l.initial.state (flat_map str (take l.i l.texts)))
