-- A start has the number of its period.
use Rattle.date_spec.proofs.KeyLemmas.{instant-place, key-own, key-between}
use Rattle.date_spec.proofs.period_laws.keys_are_their_own_keys.Goals as goal

pub returns-clause-own : goal.returns-clause-own
returns-clause-own c = λ p zone instant h z held. key-own p zone h instant (instant-place p zone instant z held.0)

pub returns-clause-between : goal.returns-clause-between
returns-clause-between c = key-between
