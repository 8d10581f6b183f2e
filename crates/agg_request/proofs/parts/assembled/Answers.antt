use Rattle.std.proofs.Common.{refl}
use Rattle.std.proofs.lemmas.Result.{err_from_is_err_and}
use Rattle.agg_reading.proofs.Steps.{fails_bind}
use Rattle.agg_request.proofs.Assembled.{in_two}
use Rattle.agg_request.proofs.parts.assembled.Goals as goal

pub returns-in_err-order-clause-value : goal.returns-in_err-order-clause-value
returns-in_err-order-clause-value c =
    let p = err_from_is_err_and c.from_residual.result c.from_residual.ensures.1 in
    rw (p.1, p.2, in_two c.args.top c.args.kind c.args.name.now _ _ c.args.found c.args.children c.args.counts) (fails_bind _ _ _ c.in_err-order.ensures)

pub returns-clause-value : goal.returns-clause-value
returns-clause-value c =
    rw (in_two c.args.top c.args.kind c.args.name.now _ _ c.args.found c.args.children c.args.counts, c.in_ok-order.ensures, c.in_ok-item.ensures, c.with_order-kind.ensures) refl
