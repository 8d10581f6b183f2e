use Rattle.std.proofs.Common.{◌≡◌, map, pos, take}
use Rattle.agg_evaluation.specs.Rows.{row_of}
use Rattle.column_query.specs.Prepared.{says}
use Rattle.filters_agg.specs.Numbers.{true_places}
use Rattle.filters_agg.proofs.prepared_filters.codes.Given as goal

abbrev pub invariant-loop-place : goal.invariant-loop-place
invariant-loop-place l = l.codes.items ≡ map pos (true_places (map (λ q. says l.shard.rows q (row_of l.shard.rows l.row)) (take l.place l.filter-items)))
