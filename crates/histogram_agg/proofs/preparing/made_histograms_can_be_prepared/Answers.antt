use Rattle.std.proofs.Common.{sym, subst}
use Rattle.histogram_agg.specs.Codes.{IsSpacedBy}
use Rattle.histogram_agg.proofs.Made.{made-spaced, spaced-kind}
use Rattle.histogram_agg.proofs.preparing.made_histograms_can_be_prepared.Goals as goal

pub returns : goal.returns
returns c m children h interval offset is made = spaced-kind h (subst IsSpacedBy (sym is) (made-spaced m children h interval offset is made))
