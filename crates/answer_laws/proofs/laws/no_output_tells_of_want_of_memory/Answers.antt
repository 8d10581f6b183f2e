use Rattle.answer_laws.proofs.AnswerCounts.{printed-none}
use Rattle.answer_laws.proofs.laws.no_output_tells_of_want_of_memory.Goals as goal

pub returns : goal.returns
returns c change words input read status before after failures piece output = printed-none before after failures output.printed
