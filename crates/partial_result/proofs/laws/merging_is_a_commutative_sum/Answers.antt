use Rattle.partial_result.proofs.SumLaws.{commutative, associative, neutral}
use Rattle.partial_result.proofs.laws.merging_is_a_commutative_sum.Goals as goal

pub returns-clause-commutative : goal.returns-clause-commutative
returns-clause-commutative c = commutative

pub returns-clause-associative : goal.returns-clause-associative
returns-clause-associative c = associative

pub returns-clause-neutral : goal.returns-clause-neutral
returns-clause-neutral c = neutral
