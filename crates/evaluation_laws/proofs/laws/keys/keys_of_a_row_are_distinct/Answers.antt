use Rattle.agg_evaluation.proofs.DistinctKeys.{ascending-keys}
use Rattle.list_laws.proofs.Booleans.{true_is}
use Rattle.evaluation_laws.proofs.laws.keys.keys_of_a_row_are_distinct.Goals as goal

pub returns : goal.returns
returns c = λ all kind row. true_is _ (ascending-keys all kind row)
