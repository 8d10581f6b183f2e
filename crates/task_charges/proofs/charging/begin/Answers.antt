use Rattle.std.proofs.lemmas.Result.{err_from_is_err_and}
use Rattle.agg_model.specs.declared.breaker.Which.TheVariants.{Request}
use Rattle.task_charges.proofs.Beginning.{begin-refused, begun}
use Rattle.task_charges.proofs.charging.begin.Goals as goal

pub returns-in_err-charge-clause-err : goal.returns-in_err-charge-clause-err
returns-in_err-charge-clause-err c =
    let p = err_from_is_err_and c.from_residual.result c.from_residual.ensures.1 in rw (p.1, p.2)
    (λ more. begin-refused c.args.words.now.limits c.args.pass.now.view c.charge.new.pass.view c.args.wanted c.requires.rest c.in_err-charge.ensures.bounded c.requires.some more _ c.in_err-charge.ensures.err)

pub returns-clause-ok : goal.returns-clause-ok
returns-clause-ok c = begun c.args.words.now.limits c.args.pass.now.view c.charge.new.pass.view c.args.wanted c.requires.rest c.in_ok-charge.ensures.bounded c.requires.some c.in_ok-charge.ensures.ok

pub returns-in_err-charge-clause-gone : goal.returns-in_err-charge-clause-gone
returns-in_err-charge-clause-gone c = let p = err_from_is_err_and c.from_residual.result c.from_residual.ensures.1 in rw p.1 (let same = c.in_err-charge.ensures.err.holds Request in same)
