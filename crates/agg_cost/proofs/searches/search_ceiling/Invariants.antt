use Rattle.std.proofs.Common.{◌≡◌, ◌*◌, ◌≤◌, Some}
use Rattle.agg_cost.proofs.Summing.{first_sum}
use Rattle.agg_cost.specs.Searches.{kinds_of}
use Rattle.agg_cost.proofs.searches.search_ceiling.Given as goal

abbrev pub invariant-loop-shard : goal.invariant-loop-shard
invariant-loop-shard l =
    record { sum : first_sum (kinds_of l.fn.index.mapping) l.fn.search l.shard-items l.shard-index ≡ Some l.bytes; low : l.bytes ≤ 1125899906842624 * l.shard-index }
