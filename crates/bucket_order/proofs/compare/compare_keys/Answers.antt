use Rattle.std.proofs.Common.{◌∙◌}
use Rattle.agg_evaluation.proofs.KeyCompare.{derived_is}
use Rattle.bucket_order.proofs.compare.compare_keys.Goals as goal

pub returns : goal.returns
returns c = c.cmp.ensures ∙ derived_is _ _
