use Rattle.std.proofs.Common.{◌<◌, All, length, take}
use Rattle.nested_agg.proofs.Steps.{AreFound}
use Rattle.nested_agg.proofs.around.rows_around.Given as goal

abbrev pub invariant-loop-row : goal.invariant-loop-row
invariant-loop-row l = record {
  found : AreFound l.shard.rows l.context (take l.row-index l.rows) l.found l.last;
  in_range : All (λ n. n < length l.shard.rows) l.found;
}
