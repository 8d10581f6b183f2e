use Rattle.breaker_words.proofs.Counts.{trips_run}
use Rattle.breaker_words.proofs.laws.trip_counts.Goals as goal

pub returns : goal.returns
returns c = λ l ms x. trips_run l x ms
