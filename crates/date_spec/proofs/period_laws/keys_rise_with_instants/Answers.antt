-- Numbers rise with local times, and starts with numbers.
use Rattle.date_spec.proofs.KeyLemmas.{instant-place, key-rises}
use Rattle.date_spec.proofs.period_laws.keys_rise_with_instants.Goals as goal

pub returns : goal.returns
returns c = λ p zone earlier later h z held le. key-rises p zone h earlier (instant-place p zone earlier z held.0) later le
