use Rattle.agg_cost.proofs.Narrowness.{FirstAtMost}
use Rattle.agg_cost.specs.Searches.{kinds_of}
use Rattle.agg_cost.proofs.width.search_most.Given as goal

abbrev pub invariant-loop-shard : goal.invariant-loop-shard
invariant-loop-shard l = FirstAtMost (kinds_of l.fn.index.mapping) l.fn.search l.bytes l.shard-items l.shard-index
