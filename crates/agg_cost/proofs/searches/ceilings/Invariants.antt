use Rattle.std.proofs.Common.{◌≡◌}
use Rattle.std.specs.Prelude.{take}
use Rattle.agg_cost.specs.Searches.{kinds_of, task_ceilings}
use Rattle.shard_columns.specs.Index.{rows_by_shard}
use Rattle.agg_cost.proofs.searches.ceilings.Given as goal

abbrev pub invariant-loop-search : goal.invariant-loop-search
invariant-loop-search g l = l.all.items ≡ task_ceilings (kinds_of l.fn.index.mapping) (take l.search-index l.search-items) (rows_by_shard l.fn.index.shards)
