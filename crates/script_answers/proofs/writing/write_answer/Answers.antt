use Rattle.std.proofs.lemmas.Result.{err_from_is_err_and}
use Rattle.script_answers.proofs.Putting.{line_wants}
use Rattle.script_answers.proofs.writing.write_answer.Goals as goal

pub returns-in_err-text-in-Refused-clause-puts : goal.returns-in_err-text-in-Refused-clause-puts
returns-in_err-text-in-Refused-clause-puts g c =
    let p = err_from_is_err_and c.from_residual.result c.from_residual.ensures.1 in
    rw (p.1, p.2) (line_wants _ _)

pub returns-in_err-text-in-Tripped-clause-puts : goal.returns-in_err-text-in-Tripped-clause-puts
returns-in_err-text-in-Tripped-clause-puts g c =
    let p = err_from_is_err_and c.from_residual-in_err-text-in-Tripped.result c.from_residual-in_err-text-in-Tripped.ensures.1 in
    rw (p.1, p.2) (line_wants _ _)

pub returns-in-Memory-clause-puts : goal.returns-in-Memory-clause-puts
returns-in-Memory-clause-puts g c = line_wants _ _
