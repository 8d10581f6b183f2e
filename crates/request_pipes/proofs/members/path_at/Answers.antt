use Rattle.std.proofs.Common.{refl}
use Rattle.std.proofs.lemmas.Result.{err_from_is_err_and}
use Rattle.agg_reading.specs.Pipelines.{path_at}
use Rattle.agg_reading.proofs.Steps.{fails_bind}
use Rattle.request_pipes.proofs.members.path_at.Goals as goal

pub returns-in_err-check_names : goal.returns-in_err-check_names
unfolding path_at
returns-in_err-check_names c =
    let p = err_from_is_err_and c.from_residual-in_err-check_names.result c.from_residual-in_err-check_names.ensures.1 in
    rw (p.1, p.2, c.in_ok-members.ensures) (fails_bind _ _ _ c.in_err-check_names.ensures)

pub returns-in_err-said : goal.returns-in_err-said
unfolding path_at
returns-in_err-said c =
    let p = err_from_is_err_and c.from_residual-in_err-said.result c.from_residual-in_err-said.ensures.1 in
    rw (p.1, p.2, c.in_ok-members.ensures, c.in_ok-check_names.ensures) (fails_bind _ _ _ c.in_err-said.ensures)

pub returns-in_err-path : goal.returns-in_err-path
unfolding path_at
returns-in_err-path c =
    let p = err_from_is_err_and c.from_residual-in_err-path.result c.from_residual-in_err-path.ensures.1 in
    rw (p.1, p.2, c.in_ok-members.ensures, c.in_ok-check_names.ensures, c.in_ok-said.ensures) (fails_bind _ _ _ c.in_err-path.ensures)

pub returns : goal.returns
unfolding path_at
returns c = rw (c.in_ok-members.ensures, c.in_ok-check_names.ensures, c.in_ok-said.ensures, c.in_ok-path.ensures, c.in_ok-of.ensures, c.in_ok-text.ensures) refl
