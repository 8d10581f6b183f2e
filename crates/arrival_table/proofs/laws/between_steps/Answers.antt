use Rattle.arrival_moves.proofs.Fair.{fair_run}
use Rattle.arrival_table.proofs.laws.between_steps.Goals as goal

pub returns : goal.returns
returns g c = λ p s good r. (r.0, r.1, fair_run p good r.0)
