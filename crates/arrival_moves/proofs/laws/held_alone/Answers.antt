use Rattle.arrival_moves.specs.Moves.{run}
use Rattle.arrival_moves.proofs.Runs.{kept_run}
use Rattle.arrival_moves.proofs.Alone.{tasks_alone, tickets_alone, batches_alone, claim_new}
use Rattle.arrival_moves.proofs.laws.held_alone.Goals as goal

pub returns : goal.returns
returns c = λ p ms good. record {
  task = tasks_alone p good (run p ms) (kept_run p good ms);
  ticket = tickets_alone p good (run p ms) (kept_run p good ms);
  batch = batches_alone p good (run p ms) (kept_run p good ms);
  claim = claim_new p good (run p ms) (kept_run p good ms);
}
