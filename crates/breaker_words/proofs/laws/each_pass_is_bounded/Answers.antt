use Rattle.breaker_words.proofs.Bounds.{bounded_run}
use Rattle.breaker_words.proofs.laws.each_pass_is_bounded.Goals as goal

pub returns : goal.returns
returns c = λ l ms i v here. bounded_run l ms i v here
