use Rattle.std.proofs.Common.{◌≡◌, ◌+◌, false, take}
use Rattle.std.specs.Prelude.{sum_by}
use Rattle.std.specs.List.{list_any}
use Rattle.agg_cost.specs.Capped.{capped}
use Rattle.agg_cost.proofs.Totals.{bytes_of, is_wide_agg}
use Rattle.agg_cost.proofs.task.ceiling.Given as goal

abbrev pub invariant-loop-agg : goal.invariant-loop-agg
invariant-loop-agg l =
    (l.bytes ≡ capped (4096 + sum_by (bytes_of l.fn.shard.kinds l.fn.shard.rows l.fn.search) (take l.agg-index l.agg-items)))
    × (list_any (is_wide_agg l.fn.shard.rows l.fn.search) (take l.agg-index l.agg-items) ≡ false)
