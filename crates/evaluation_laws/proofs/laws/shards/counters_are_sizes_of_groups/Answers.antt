use Rattle.agg_evaluation.proofs.CounterLaws.{counters-groups}
use Rattle.evaluation_laws.proofs.laws.shards.counters_are_sizes_of_groups.Goals as goal

pub returns : goal.returns
returns c = counters-groups
