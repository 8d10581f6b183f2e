use Rattle.breaker_words.proofs.Counts.{granted_run}
use Rattle.breaker_words.proofs.laws.granted_totals.Goals as goal

pub returns : goal.returns
returns c = λ l ms x. granted_run l x ms
