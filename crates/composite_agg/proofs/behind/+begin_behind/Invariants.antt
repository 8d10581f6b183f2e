use Rattle.std.proofs.Common.{length}
use Rattle.composite_agg.proofs.behind.+begin_behind.Given as goal

abbrev pub decreases-begin_behind : goal.decreases-begin_behind
decreases-begin_behind l = length l.sources.now
