use Rattle.script_lines.proofs.EntryLemmas.{bodies}
use Rattle.script_lines.proofs.reader.next_body.Goals as goal

pub returns-clause-script : goal.returns-clause-script
returns-clause-script g c bytes whole before goes_on = bodies whole bytes before _ _ _ _ goes_on c.take_line.result _ _ _ _ _ _ c.take_line.ensures.line (c.take_line.ensures.front bytes)
