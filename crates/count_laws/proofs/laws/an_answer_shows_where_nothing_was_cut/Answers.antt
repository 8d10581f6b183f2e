use Rattle.list_laws.proofs.Booleans.{holds, true_is}
use Rattle.count_laws.proofs.Shown.{answer-shows}
use Rattle.count_laws.proofs.laws.an_answer_shows_where_nothing_was_cut.Goals as goal

pub returns : goal.returns
returns c = λ m request shards path fit shows. true_is _ (answer-shows m request shards path (holds _ fit) (holds _ shows))
