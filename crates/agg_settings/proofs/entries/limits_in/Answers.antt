use Rattle.agg_settings.specs.Entries.{limits_in}
use Rattle.agg_settings.proofs.entries.limits_in.Goals as goal

pub returns-clause-value : goal.returns-clause-value
unfolding limits_in
returns-clause-value c = cc
