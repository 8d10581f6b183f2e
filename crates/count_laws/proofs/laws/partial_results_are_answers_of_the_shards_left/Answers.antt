use Rattle.std.proofs.Common.{sym, ap}
use Rattle.agg_evaluation.specs.Shard.{shard_answer}
use Rattle.agg_evaluation.specs.Whole.{whole}
use Rattle.agg_spec.specs.Final.{final}
use Rattle.agg_spec.specs.Index.{rows_in}
use Rattle.list_laws.proofs.Lists.{map-map}
use Rattle.count_laws.proofs.laws.partial_results_are_answers_of_the_shards_left.Goals as goal

pub returns-clause-whole : goal.returns-clause-whole
returns-clause-whole c = λ index request left. ap (whole request) (sym (map-map (shard_answer request) (rows_in index) left))

pub returns-clause-answer : goal.returns-clause-answer
returns-clause-answer c = λ index request left. ap (λ parts. final request (whole request parts)) (sym (map-map (shard_answer request) (rows_in index) left))
