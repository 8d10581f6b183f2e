use Rattle.agg_evaluation.proofs.IntervalLaws.{interval_start-is, interval-unique}
use Rattle.evaluation_laws.proofs.laws.keys.histogram_key_is_the_one_multiple.Goals as goal

pub returns-clause-multiple : goal.returns-clause-multiple
returns-clause-multiple c = interval_start-is

pub returns-clause-one : goal.returns-clause-one
returns-clause-one c = interval-unique
