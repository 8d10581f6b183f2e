use Rattle.agg_base.proofs.Gave.{gave_then}
use Rattle.script_run.proofs.answering.answer_lines.Goals as goal

pub returns-in-Ok-clause-gave : goal.returns-in-Ok-clause-gave
returns-in-Ok-clause-gave g c = gave_then c.load.ensures.gave c.answer_loaded.ensures.gave
