-- Numbers go on by one.
use Rattle.date_spec.proofs.KeyLemmas.{instant-place, after-none, after-next}
use Rattle.date_spec.proofs.period_laws.keys_follow_one_another.Goals as goal

pub returns-clause-first : goal.returns-clause-first
returns-clause-first c = λ p zone instant h z held. after-none p zone h instant (instant-place p zone instant z held.0)

pub returns-clause-next : goal.returns-clause-next
returns-clause-next c = λ p zone instant n h z held. after-next p zone h instant (instant-place p zone instant z held.0) n
