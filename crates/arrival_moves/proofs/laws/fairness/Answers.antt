use Rattle.arrival_moves.proofs.Fair.{fair_run}
use Rattle.arrival_moves.proofs.laws.fairness.Goals as goal

pub returns : goal.returns
returns c = λ p ms good. fair_run p good ms
