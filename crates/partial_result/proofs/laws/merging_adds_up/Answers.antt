use Rattle.partial_result.proofs.SumLaws.{one_more, two_lists}
use Rattle.partial_result.proofs.laws.merging_adds_up.Goals as goal

pub returns-clause-one_more : goal.returns-clause-one_more
returns-clause-one_more c = one_more

pub returns-clause-two_lists : goal.returns-clause-two_lists
returns-clause-two_lists c = two_lists
