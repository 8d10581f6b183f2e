use Rattle.growth_laws.proofs.AddedUp.{matched-bits}
use Rattle.growth_laws.proofs.laws.sums.matched_roots_are_the_set_bits.Goals as goal

pub returns : goal.returns
returns c = matched-bits
