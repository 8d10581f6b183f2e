use Rattle.std.proofs.Common.{refl, arith, []}
use Rattle.std.proofs.lemmas.Int.{ints}
use Rattle.growing_tree.proofs.number.Taken.new.Goals as goal

pub invariant_of-result : goal.invariant_of-result
invariant_of-result c = record { seen = []; is = refl; bounded = record { least = omega (arith, ints); greatest = omega (arith, ints) } }
