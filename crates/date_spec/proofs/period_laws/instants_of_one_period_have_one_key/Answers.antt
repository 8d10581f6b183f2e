-- The period that has begun and whose next has not is one.
use Rattle.date_spec.proofs.KeyLemmas.{instant-place, same-key}
use Rattle.date_spec.proofs.period_laws.instants_of_one_period_have_one_key.Goals as goal

pub returns : goal.returns
returns c = λ p zone earlier later h z held to le. same-key p zone h earlier later (instant-place p zone earlier z held.0) le
