use Rattle.arrival_moves.specs.Moves.{run}
use Rattle.arrival_moves.proofs.Growth.{grown_run, claim_rises}
use Rattle.arrival_moves.proofs.laws.words_grow.Goals as goal

pub returns-clause-grow : goal.returns-clause-grow
returns-clause-grow c = λ p ms ns good. grown_run p good ms ns

pub returns-clause-claim : goal.returns-clause-claim
returns-clause-claim c = λ p ms good. claim_rises p good (run p ms)
