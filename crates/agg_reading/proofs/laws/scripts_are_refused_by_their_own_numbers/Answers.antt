use Rattle.agg_reading.proofs.ScriptRefusals.{a_script}
use Rattle.agg_reading.proofs.laws.scripts_are_refused_by_their_own_numbers.Goals as goal

pub returns : goal.returns
returns c = a_script
