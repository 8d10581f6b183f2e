use Rattle.answer_laws.proofs.LineCounts.{written-length}
use Rattle.agg_settings.proofs.ChangesKeep.{changed-keeps}
use Rattle.answer_laws.proofs.laws.each_entry_of_a_script_has_one_line.Goals as goal

pub returns-clause-lines : goal.returns-clause-lines
returns-clause-lines c = written-length

pub returns-clause-kept : goal.returns-clause-kept
returns-clause-kept c = λ words now after line is. let kept = changed-keeps words now after line is in (kept.0, kept.1)
