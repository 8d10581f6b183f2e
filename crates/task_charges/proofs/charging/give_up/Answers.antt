use Rattle.task_charges.proofs.Refusing.{given-up}
use Rattle.task_charges.proofs.charging.give_up.Goals as goal

pub returns-clause-up : goal.returns-clause-up
returns-clause-up c = λ v ns paid all. given-up c.args.words.now.limits v c.args.pass.now.view ns paid c.args.held all c.give_back.new.pass.view c.give_back.ensures.given
