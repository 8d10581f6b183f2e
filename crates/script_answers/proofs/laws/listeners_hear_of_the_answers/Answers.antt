use Rattle.script_answers.proofs.Hearing.{heard-from}
use Rattle.script_answers.proofs.laws.listeners_hear_of_the_answers.Goals as goal

pub returns : goal.returns
returns c written all = heard-from written 1 all
