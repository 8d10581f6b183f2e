use Rattle.std.proofs.Common.{◌≡◌, ◌≤◌, map, take}
use Rattle.std.specs.Prelude.{sum}
use Rattle.agg_evaluation.specs.Ceiling.{ceiling}
use Rattle.shard_columns.specs.Index.{rows_by_shard}
use Rattle.agg_cost.specs.Searches.{AreRoomsFor, kinds_of}
use Rattle.agg_cost.proofs.room.rooms_by_bound.Given as goal

abbrev pub invariant-loop-shard : goal.invariant-loop-shard
invariant-loop-shard l = record {
  rooms : AreRoomsFor l.all.items (map (ceiling (kinds_of l.fn.index.mapping) l.fn.search) (rows_by_shard (take l.shard-index l.shard-items)));
  sum_is : sum l.all.items ≡ l.bytes;
  within : l.bytes ≤ 1125899906842624;
}
