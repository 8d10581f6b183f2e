-- The steps are the difference of two numbers.
use Rattle.date_spec.proofs.KeyLemmas.{instant-place, steps-arrive, steps-count, after-own, after-rise}
use Rattle.date_spec.proofs.period_laws.steps_lead_from_key_to_key.Goals as goal

pub returns-clause-arrive : goal.returns-clause-arrive
returns-clause-arrive c = λ p zone earlier later h z held le. steps-arrive p zone h earlier later (instant-place p zone earlier z held.0) le

pub returns-clause-count : goal.returns-clause-count
returns-clause-count c = λ p zone instant n h z held. steps-count p zone h instant (instant-place p zone instant z held.0) n

pub returns-clause-own : goal.returns-clause-own
returns-clause-own c = λ p zone instant n h z held. after-own p zone h instant (instant-place p zone instant z held.0) n

pub returns-clause-rise : goal.returns-clause-rise
returns-clause-rise c = λ p zone instant n h z held. after-rise p zone h instant (instant-place p zone instant z held.0) n
