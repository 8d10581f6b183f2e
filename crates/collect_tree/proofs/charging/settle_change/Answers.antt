use Rattle.std.proofs.Common.{arith}
use Rattle.task_charges.proofs.Steps.{paid-still}
use Rattle.collect_tree.proofs.charging.settle_change.Goals as goal

pub returns-then-wanted-held-clause-ok : goal.returns-then-wanted-held-clause-ok
returns-then-wanted-held-clause-ok c = λ v ns paid. paid-still c.args.words.now.limits v c.args.pass.now.view c.args.pass.now.view ns paid c.args.held c.args.wanted (omega arith)

pub returns-in-Ok-clause-ok : goal.returns-in-Ok-clause-ok
returns-in-Ok-clause-ok c = c.in-Ok.ensures.ok

pub returns-in-Err-clause-err : goal.returns-in-Err-clause-err
returns-in-Err-clause-err c = c.in-Err.ensures.err
