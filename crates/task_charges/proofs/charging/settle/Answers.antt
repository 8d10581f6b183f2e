use Rattle.std.proofs.Common.{arith}
use Rattle.task_charges.proofs.Steps.{paid-back, paid-still}
use Rattle.task_charges.proofs.charging.settle.Goals as goal

pub returns-then-wanted-held-2-clause-ok : goal.returns-then-wanted-held-2-clause-ok
returns-then-wanted-held-2-clause-ok c = λ v ns paid.
    paid-back c.args.words.now.limits v c.args.pass.now.view c.give_back.new.pass.view ns paid c.args.held c.args.wanted (omega arith) c.give_back.ensures.given

pub returns-clause-ok : goal.returns-clause-ok
returns-clause-ok c = λ v ns paid. paid-still c.args.words.now.limits v c.args.pass.now.view c.args.pass.now.view ns paid c.args.held c.args.wanted (omega arith)
