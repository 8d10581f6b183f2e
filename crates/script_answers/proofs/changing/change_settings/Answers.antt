use Rattle.std.proofs.Common.{refl, sym}
use Rattle.std.proofs.lemmas.Result.{err_from_is_err_and}
use Rattle.script_answers.proofs.Putting.{line_wants}
use Rattle.agg_spec.specs.Written.{settings}
use Rattle.script_answers.proofs.changing.change_settings.Goals as goal

pub returns-in_err-next-clause-puts : goal.returns-in_err-next-clause-puts
returns-in_err-next-clause-puts g c =
    let p = err_from_is_err_and c.from_residual.result c.from_residual.ensures.1 in
    rw (p.1, p.2) (line_wants _ _)

pub returns-in_err-write_line-clause-puts : goal.returns-in_err-write_line-clause-puts
returns-in_err-write_line-clause-puts g c =
    let p = err_from_is_err_and c.from_residual-in_err-write_line.result c.from_residual-in_err-write_line.ensures.1 in
    rw (p.1, p.2) (c.in_err-write_line.ensures.puts (settings _) refl refl (sym c.in_ok-next.ensures.text))

pub returns-clause-puts : goal.returns-clause-puts
returns-clause-puts g c = c.in_ok-write_line.ensures.puts (settings _) refl refl (sym c.in_ok-next.ensures.text)
