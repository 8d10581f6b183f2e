use Rattle.breaker_words.proofs.Runs.{sound_run}
use Rattle.breaker_words.proofs.laws.soundness.Goals as goal

pub returns : goal.returns
returns c = λ l ms. sound_run l ms
