use Rattle.agg_evaluation.proofs.KeyCompare.{derived_is, key_cmp_total}
use Rattle.agg_evaluation.proofs.KeyExact.{exact_keys}
use Rattle.evaluation_laws.proofs.laws.keys.keys_have_one_order.Goals as goal

pub returns-clause-compared : goal.returns-clause-compared
returns-clause-compared c = derived_is

pub returns-clause-total : goal.returns-clause-total
returns-clause-total c = key_cmp_total

pub returns-clause-exact : goal.returns-clause-exact
returns-clause-exact c = exact_keys
