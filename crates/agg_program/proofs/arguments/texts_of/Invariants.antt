use Rattle.std.proofs.Common.{◌≡◌, ◌++◌, map}
use Rattle.std.specs.Prelude.{string_bytes}
use Rattle.std.specs.Vec.Iter.{into_iter_items}
use Rattle.agg_program.proofs.arguments.texts_of.Given as goal

abbrev pub invariant-loop-argument : goal.invariant-loop-argument
invariant-loop-argument l = l.words ++ map string_bytes (into_iter_items l.argument-iterator) ≡ map string_bytes (into_iter_items l.fn.arguments)
