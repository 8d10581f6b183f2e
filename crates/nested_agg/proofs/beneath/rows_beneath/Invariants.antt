use Rattle.std.proofs.Common.{◌≡◌, ◌<◌, ◌+◌, All, flat_map, length, map, take}
use Rattle.agg_evaluation.specs.Rows.{beneath, row_of}
use Rattle.nested_agg.proofs.beneath.rows_beneath.Given as goal

abbrev pub invariant-loop-row : goal.invariant-loop-row
invariant-loop-row l =
    (map (row_of l.shard.rows) l.found.items ≡ flat_map (beneath l.shard.rows (l.path + 1)) (map (row_of l.shard.rows) (take l.row-index l.rows)))
    × All (λ n. n < length l.shard.rows) l.found.items
