use Rattle.answer_laws.proofs.Reduced.{allowed-tells}
use Rattle.answer_laws.proofs.Responses.{round-prints}
use Rattle.answer_laws.proofs.laws.responses_print_the_answer_of_the_shards_left.Goals as goal

pub returns : goal.returns
returns c = λ index columns round may. round-prints index round (allowed-tells index columns round may)
