use Rattle.agg_evaluation.specs.KeyOrder.{has_key}
use Rattle.agg_evaluation.specs.Keys.{keys}
use Rattle.fitting_laws.proofs.Counting.{under_counted, filter_counted, key_counts_light}
use Rattle.fitting_laws.proofs.laws.wholes.counted_rows_are_counted_again.Goals as goal

pub returns-clause-under : goal.returns-clause-under
returns-clause-under c = under_counted

pub returns-clause-group : goal.returns-clause-group
returns-clause-group c all context k rows key h = filter_counted all context rows (λ row. has_key key (keys all k row)) h

pub returns-clause-keys : goal.returns-clause-keys
returns-clause-keys c = key_counts_light
