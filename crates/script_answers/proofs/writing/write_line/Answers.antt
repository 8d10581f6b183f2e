use Rattle.std.proofs.Common.{refl}
use Rattle.script_answers.proofs.Putting.{heard-nothing, line_breaks, line_wrote}
use Rattle.script_answers.proofs.writing.write_line.Goals as goal

pub returns-in-Ok-clause-puts : goal.returns-in-Ok-clause-puts
returns-in-Ok-clause-puts g c line printed not is = line_wrote _ _ line _ printed is (heard-nothing _ _ line not c.pass.ensures.next c.pass.ensures.same) c.in-Ok.ensures.all

pub returns-in-Err-clause-puts : goal.returns-in-Err-clause-puts
returns-in-Err-clause-puts g c line printed not is = line_breaks _ _ line _ printed is refl c.in-Err.ensures.front
