use Rattle.breaker_words.proofs.Runs.{sound_run}
use Rattle.breaker_words.proofs.laws.between_steps.Goals as goal

pub returns : goal.returns
returns c = λ l s r. (r.0, r.1, sound_run l r.0)
