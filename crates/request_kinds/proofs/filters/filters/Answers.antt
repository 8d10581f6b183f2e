use Rattle.std.proofs.lemmas.Result.{err_from_is_err_and}
use Rattle.agg_reading.specs.Filters.{filters_at}
use Rattle.agg_reading.proofs.Steps.{fails_bind}
use Rattle.request_kinds.proofs.filters.filters.Goals as goal

pub returns-in_err-check_names-clause-value : goal.returns-in_err-check_names-clause-value
unfolding filters_at
returns-in_err-check_names-clause-value c =
    let p = err_from_is_err_and c.from_residual-in_err-check_names.result c.from_residual-in_err-check_names.ensures.1 in
    rw (p.1, p.2, c.in_ok-members.ensures) (fails_bind _ _ _ c.in_err-check_names.ensures)

pub returns-clause-value : goal.returns-clause-value
unfolding filters_at
returns-clause-value c = rw (c.in_ok-members.ensures, c.in_ok-check_names.ensures) c.filters_from.ensures.value
