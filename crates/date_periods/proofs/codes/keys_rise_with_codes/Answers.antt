-- A later period begins later.
use Rattle.date_periods.proofs.ReachLemmas.{code-rising}
use Rattle.date_periods.proofs.codes.keys_rise_with_codes.Goals as goal

pub returns : goal.returns
returns c = λ p zone code other h z is less. code-rising p zone h z code other is less
