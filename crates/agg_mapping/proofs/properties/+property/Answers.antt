use Rattle.std.proofs.Common.{rules}
use Rattle.std.proofs.lemmas.Result.{err_from_is_err_and}
use Rattle.agg_reading.specs.Properties.{inner_at}
use Rattle.agg_reading.proofs.Steps.{fails_bind}
use Rattle.agg_mapping.proofs.properties.+property.Goals as goal

pub inner-returns-in_err-check_names : goal.inner-returns-in_err-check_names
unfolding inner_at
inner-returns-in_err-check_names t c =
    let p = err_from_is_err_and c.from_residual.result c.from_residual.ensures.1 in
    rw (p.1, p.2) (fails_bind _ _ _ c.in_err-check_names.ensures)

pub inner-returns : goal.inner-returns
unfolding inner_at
inner-returns t c = rw c.in_ok-check_names.ensures (search rules)
