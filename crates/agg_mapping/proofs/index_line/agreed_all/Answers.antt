use Rattle.std.proofs.lemmas.Result.{err_from_is_err_and}
use Rattle.agg_reading.specs.IndexLine.{agreed_all}
use Rattle.agg_reading.proofs.Steps.{fails_bind}
use Rattle.agg_mapping.proofs.index_line.agreed_all.Goals as goal

pub returns-in_err-two : goal.returns-in_err-two
unfolding agreed_all
returns-in_err-two c =
    let p = err_from_is_err_and c.from_residual-in_err-two.result c.from_residual-in_err-two.ensures.1 in
    rw (p.1, p.2, c.in_ok-one.ensures) (fails_bind _ _ _ c.in_err-two.ensures)

pub returns : goal.returns
unfolding agreed_all
returns c = rw (c.in_ok-one.ensures, c.in_ok-two.ensures) c.agreed_at-3.ensures
