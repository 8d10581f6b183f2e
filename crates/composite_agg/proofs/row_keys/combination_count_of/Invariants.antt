use Rattle.std.proofs.Common.{◌≡◌, ◌≤◌, ◌*◌, ◌^◌, ◌-◌, drop}
use Rattle.std.specs.Prelude.{min}
use Rattle.agg_evaluation.specs.Ceiling.{combination_count}
use Rattle.agg_evaluation.specs.Rows.{row_of}
use Rattle.composite_agg.proofs.row_keys.combination_count_of.Given as goal

-- the sources so far and those to come
abbrev pub invariant-loop-source : goal.invariant-loop-source
invariant-loop-source l =
    (min (l.count * combination_count (drop l.source-index l.sources) (row_of l.shard.rows l.row)) (2 ^ 64 - 1)
    ≡ min (combination_count l.sources (row_of l.shard.rows l.row)) (2 ^ 64 - 1))
    × (l.count ≤ 2 ^ 64 - 1)
