use Rattle.std.proofs.Common.{arith}
use Rattle.agg_model.specs.declared.breaker.Which.TheVariants.{Request, Parent}
use Rattle.task_charges.proofs.Refusing.{refused}
use Rattle.task_charges.proofs.Steps.{paid-charge}
use Rattle.task_charges.proofs.charging.raise.Goals as goal

pub returns-in-Err-clause-err : goal.returns-in-Err-clause-err
returns-in-Err-clause-err c = λ v ns more paid all.
    refused c.args.words.now.limits v c.args.pass.now.view ns paid c.args.held all c.args.wanted c.requires.more more c.in-Err.tripped c.charge.new.pass.view c.in-Err.ensures.err c.give_up.new.pass.view
    c.give_up.ensures.given

pub returns-clause-ok : goal.returns-clause-ok
returns-clause-ok c = λ v ns paid. paid-charge c.args.words.now.limits v c.args.pass.now.view c.charge.new.pass.view ns paid c.args.held c.args.wanted c.requires.more c.in_default.ensures.ok

pub returns-in-Err-clause-gone : goal.returns-in-Err-clause-gone
returns-in-Err-clause-gone c = let same = c.in-Err.ensures.err.holds Request in let back = c.give_up.ensures.given.holds Request in omega arith

pub returns-in-Err-clause-gone_at_parent : goal.returns-in-Err-clause-gone_at_parent
returns-in-Err-clause-gone_at_parent c = let same = c.in-Err.ensures.err.holds Parent in let back = c.give_up.ensures.given.holds Parent in omega arith
