use Rattle.list_laws.proofs.Booleans.{true_is}
use Rattle.agg_evaluation.proofs.TreeLaws.{shard_answer-is_result, built-is_result}
use Rattle.evaluation_laws.proofs.laws.shards.shard_answers_are_results.Goals as goal

pub returns-clause-answer : goal.returns-clause-answer
returns-clause-answer c = λ search all. true_is _ (shard_answer-is_result search all)

pub returns-clause-built : goal.returns-clause-built
returns-clause-built c = λ search all n. true_is _ (built-is_result search all n)
