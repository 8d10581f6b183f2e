use Rattle.list_laws.proofs.Booleans.{holds}
use Rattle.count_laws.proofs.Reached.{answer-reached}
use Rattle.count_laws.proofs.laws.an_answer_has_the_answers_to_its_rows_below_returned_buckets.Goals as goal

pub returns : goal.returns
returns c = λ m request shards path place a fit returned at. answer-reached m request shards (holds _ fit) path place a (holds _ returned) at
