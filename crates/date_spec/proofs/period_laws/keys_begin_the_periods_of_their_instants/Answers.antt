-- A period has begun at each local time that it holds, and the next has not.
use Rattle.date_spec.proofs.KeyLemmas.{instant-place, key-begun, key-ahead}
use Rattle.date_spec.proofs.period_laws.keys_begin_the_periods_of_their_instants.Goals as goal

pub returns-clause-begun : goal.returns-clause-begun
returns-clause-begun c = λ p zone instant h z held. key-begun p zone h instant (instant-place p zone instant z held.0)

pub returns-clause-ahead : goal.returns-clause-ahead
returns-clause-ahead c = λ p zone instant h z held. key-ahead p zone h instant (instant-place p zone instant z held.0)
