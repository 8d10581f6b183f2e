use Rattle.std.proofs.lemmas.Result.{err_from_is_err_and}
use Rattle.agg_reading.specs.DateHistogram.{date_histogram_at}
use Rattle.agg_reading.proofs.Steps.{fails_bind}
use Rattle.request_kinds.proofs.date_histogram.date_histogram.Goals as goal

pub returns-in_err-check_names : goal.returns-in_err-check_names
unfolding date_histogram_at
returns-in_err-check_names c =
    let p = err_from_is_err_and c.from_residual-in_err-check_names.result c.from_residual-in_err-check_names.ensures.1 in
    rw (p.1, p.2, c.in_ok-members.ensures) (fails_bind _ _ _ c.in_err-check_names.ensures)

pub returns-in_err-place : goal.returns-in_err-place
unfolding date_histogram_at
returns-in_err-place c =
    let p = err_from_is_err_and c.from_residual-in_err-place.result c.from_residual-in_err-place.ensures.1 in
    rw (p.1, p.2, c.in_ok-members.ensures, c.in_ok-check_names.ensures) (fails_bind _ _ _ c.in_err-place.ensures)

pub returns : goal.returns
unfolding date_histogram_at
returns c = rw (c.in_ok-members.ensures, c.in_ok-check_names.ensures, c.in_ok-place.ensures) c.date_histogram_over.ensures
