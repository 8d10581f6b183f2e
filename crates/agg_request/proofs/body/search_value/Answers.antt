use Rattle.std.proofs.Common.{sym, ◌∙◌}
use Rattle.std.proofs.lemmas.Result.{err_from_is_err_and}
use Rattle.agg_reading.specs.Request.{search_value_at}
use Rattle.agg_reading.proofs.Steps.{fails_bind}
use Rattle.agg_request.proofs.body.search_value.Goals as goal

pub returns-in_err-check_names : goal.returns-in_err-check_names
unfolding search_value_at
returns-in_err-check_names c =
    let p = err_from_is_err_and c.from_residual-in_err-check_names.result c.from_residual-in_err-check_names.ensures.1 in
    rw (p.1, p.2, c.in_ok-members.ensures, sym c.has_both.ensures ∙ c.if-has_both.false) (fails_bind _ _ _ c.in_err-check_names.ensures)

pub returns : goal.returns
unfolding search_value_at
returns c = rw (c.in_ok-members.ensures, sym c.has_both.ensures ∙ c.if-has_both.false, c.in_ok-check_names.ensures) c.search_in.ensures
