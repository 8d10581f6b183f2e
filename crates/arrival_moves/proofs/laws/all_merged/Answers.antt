use Rattle.arrival_moves.specs.Moves.{run}
use Rattle.arrival_moves.proofs.Runs.{kept_run}
use Rattle.arrival_moves.proofs.Closing.{merged_there, merged_once, merged_failed}
use Rattle.arrival_moves.proofs.laws.all_merged.Goals as goal

pub returns : goal.returns
returns c = λ p ms good desk. record {
  whole = merged_there p good (run p ms) (kept_run p good ms) desk.0 desk.1 desk.2 desk.3;
  once = merged_once p good (run p ms) (kept_run p good ms) desk.0 desk.1 desk.2 desk.3;
  failed = merged_failed p good (run p ms) (kept_run p good ms) desk.0 desk.1 desk.2 desk.3;
}
