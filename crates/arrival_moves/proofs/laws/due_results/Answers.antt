use Rattle.arrival_moves.specs.Moves.{run}
use Rattle.arrival_moves.proofs.Runs.{kept_run}
use Rattle.arrival_moves.proofs.Alone.{due_there}
use Rattle.arrival_moves.proofs.laws.due_results.Goals as goal

pub returns : goal.returns
returns c = λ p ms good i q t v x. due_there p good (run p ms) (kept_run p good ms) i q t v x
