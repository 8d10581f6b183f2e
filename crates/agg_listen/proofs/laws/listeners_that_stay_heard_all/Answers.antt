use Rattle.agg_listen.proofs.Runs.{heard_each}
use Rattle.agg_listen.proofs.laws.listeners_that_stay_heard_all.Goals as goal

pub returns : goal.returns
returns c told all = heard_each told all
