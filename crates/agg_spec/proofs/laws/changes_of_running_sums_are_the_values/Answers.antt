use Rattle.agg_spec.proofs.ChangeLaws.{changes-of-sums}
use Rattle.agg_spec.proofs.laws.changes_of_running_sums_are_the_values.Goals as goal

pub returns : goal.returns
returns c ns = changes-of-sums ns
