use Rattle.std.proofs.Common.{◌≡◌, ◌≤◌, length, map, take}
use Rattle.agg_evaluation.specs.Rows.{row_of}
use Rattle.column_query.specs.Prepared.{says}
use Rattle.filters_agg.specs.Numbers.{true_places}
use Rattle.filters_agg.proofs.prepared_filters.count.Given as goal

abbrev pub invariant-loop-filter : goal.invariant-loop-filter
invariant-loop-filter l =
    (l.count ≡ length (true_places (map (λ q. says l.shard.rows q (row_of l.shard.rows l.row)) (take l.filter-index l.filter-items)))) × (l.count ≤ l.filter-index)
