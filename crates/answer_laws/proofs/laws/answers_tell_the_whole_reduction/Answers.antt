use Rattle.answer_laws.proofs.Reduced.{allowed-tells}
use Rattle.answer_laws.proofs.laws.answers_tell_the_whole_reduction.Goals as goal

pub returns : goal.returns
returns c = allowed-tells
