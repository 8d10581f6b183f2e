use Rattle.std.proofs.lemmas.Result.{err_from_is_err_and}
use Rattle.script_answers.proofs.Putting.{line_wants}
use Rattle.script_run.proofs.writing.write_usage.Goals as goal

pub returns-in_err-usage_line-clause-puts : goal.returns-in_err-usage_line-clause-puts
returns-in_err-usage_line-clause-puts g c =
    let p = err_from_is_err_and c.from_residual.result c.from_residual.ensures.1 in
    rw (p.1, p.2) (line_wants _ _)
