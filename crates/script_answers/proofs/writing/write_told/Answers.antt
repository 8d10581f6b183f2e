use Rattle.std.proofs.Common.{ap, length, refl}
use Rattle.agg_spec.specs.Written.{answer}
use Rattle.script_answers.proofs.Putting.{heard-answer, line_breaks, line_wrote}
use Rattle.script_answers.proofs.writing.write_told.Goals as goal

pub returns-in-Ok-clause-puts : goal.returns-in-Ok-clause-puts
returns-in-Ok-clause-puts g c a printed is status =
    line_wrote _ _ (answer a) _ printed is (heard-answer c.args.audience.now c.tell.new.self a c.args.status _ c.args.text.now is status (ap length c.as_str.ensures) c.tell.ensures.next c.tell.ensures.told) c.in-Ok.ensures.all

pub returns-in-Err-clause-puts : goal.returns-in-Err-clause-puts
returns-in-Err-clause-puts g c a printed is status = line_breaks _ _ (answer a) _ printed is refl c.in-Err.ensures.front
