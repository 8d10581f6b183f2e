use Rattle.std.proofs.Common.{take}
use Rattle.agg_cost.specs.Widths.{HasCombinationsAtMost}
use Rattle.agg_cost.proofs.width.most_combinations.Given as goal

abbrev pub invariant-loop-source : goal.invariant-loop-source
invariant-loop-source l = HasCombinationsAtMost l.most (take l.source-index l.source-items) l.shard.rows
