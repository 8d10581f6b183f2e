use Rattle.count_laws.proofs.SumLaws.{terms_answer-sums}
use Rattle.count_laws.proofs.laws.terms_lose_no_count.Goals as goal

pub returns : goal.returns
returns c = terms_answer-sums
