use Rattle.agg_evaluation.proofs.AddUpLaws.{sizes-add_up, terms-add_up}
use Rattle.evaluation_laws.proofs.laws.shards.counts_add_up.Goals as goal

pub returns-clause-groups : goal.returns-clause-groups
returns-clause-groups c = sizes-add_up

pub returns-clause-terms : goal.returns-clause-terms
returns-clause-terms c = λ all roots children kind rows e. terms-add_up all roots children kind e rows
