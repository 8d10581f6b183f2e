use Rattle.std.proofs.Common.{rules}
use Rattle.std.proofs.lemmas.Result.{err_from_is_err_and}
use Rattle.agg_reading.specs.Composite.{histogram_source_at}
use Rattle.agg_reading.proofs.Steps.{fails_bind}
use Rattle.request_kinds.proofs.sources.histogram_source.Goals as goal

pub returns-in_err-check_names : goal.returns-in_err-check_names
unfolding histogram_source_at
returns-in_err-check_names c =
    let p = err_from_is_err_and c.from_residual-in_err-check_names.result c.from_residual-in_err-check_names.ensures.1 in
    rw (p.1, p.2, c.in_ok-members.ensures) (fails_bind _ _ _ c.in_err-check_names.ensures)

pub returns-in_err-place : goal.returns-in_err-place
unfolding histogram_source_at
returns-in_err-place c =
    let p = err_from_is_err_and c.from_residual-in_err-place.result c.from_residual-in_err-place.ensures.1 in
    rw (p.1, p.2, c.in_ok-members.ensures, c.in_ok-check_names.ensures) (fails_bind _ _ _ c.in_err-place.ensures)

pub returns-in_err-said : goal.returns-in_err-said
unfolding histogram_source_at
returns-in_err-said c =
    let p = err_from_is_err_and c.from_residual-in_err-said.result c.from_residual-in_err-said.ensures.1 in
    rw (p.1, p.2, c.in_ok-members.ensures, c.in_ok-check_names.ensures, c.in_ok-place.ensures) (fails_bind _ _ _ c.in_err-said.ensures.value)

pub returns-in_err-missing : goal.returns-in_err-missing
unfolding histogram_source_at
returns-in_err-missing c =
    let p = err_from_is_err_and c.from_residual-in_err-missing.result c.from_residual-in_err-missing.ensures.1 in
    rw (p.1, p.2, c.in_ok-members.ensures, c.in_ok-check_names.ensures, c.in_ok-place.ensures, c.in_ok-said.ensures.value) (fails_bind _ _ _ c.in_err-missing.ensures)

pub returns-in_err-descending : goal.returns-in_err-descending
unfolding histogram_source_at
returns-in_err-descending c =
    let p = err_from_is_err_and c.from_residual-in_err-descending.result c.from_residual-in_err-descending.ensures.1 in
    rw (p.1, p.2, c.in_ok-members.ensures, c.in_ok-check_names.ensures, c.in_ok-place.ensures, c.in_ok-said.ensures.value, c.in_ok-missing.ensures) (fails_bind _ _ _ c.in_err-descending.ensures)

pub returns-in_default : goal.returns-in_default
unfolding histogram_source_at
returns-in_default c = rw (c.in_ok-members.ensures, c.in_ok-check_names.ensures, c.in_ok-place.ensures, c.in_ok-said.ensures.value, c.in_ok-missing.ensures, c.in_ok-descending.ensures) (search rules)

pub returns : goal.returns
unfolding histogram_source_at
returns c = rw (c.in_ok-members.ensures, c.in_ok-check_names.ensures, c.in_ok-place.ensures, c.in_ok-said.ensures.value, c.in_ok-missing.ensures, c.in_ok-descending.ensures) (search rules)
