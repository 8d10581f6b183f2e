use Rattle.search_wave.proofs.AllowedWave.{is-wave}
use Rattle.search_wave.proofs.laws.answered_searches_are_a_wave.Goals as goal

pub returns : goal.returns
returns c = is-wave
