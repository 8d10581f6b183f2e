use Rattle.breaker_words.proofs.Runs.{sound_run}
use Rattle.breaker_words.specs.Moves.{run}
use Rattle.breaker_words.proofs.WholeCap.{holds_within}
use Rattle.breaker_words.proofs.laws.holds_within_limits.Goals as goal

pub returns : goal.returns
returns c = λ l ms x. holds_within l (run l ms) (sound_run l ms) x
