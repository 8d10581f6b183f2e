use Rattle.answer_laws.proofs.AnswerCounts.{allowed-length}
use Rattle.answer_laws.proofs.laws.each_search_of_a_round_has_one_answer.Goals as goal

pub returns : goal.returns
returns c index columns round may = allowed-length index columns round may
