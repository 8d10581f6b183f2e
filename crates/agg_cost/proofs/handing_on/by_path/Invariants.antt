use Rattle.std.proofs.Common.{ℕ, ◌+◌, ◌*◌, length, map, take}
use Rattle.std.specs.Prelude.{sum_by}
use Rattle.agg_model.specs.declared.aggregation.Kind.TheVariants as kind
use Rattle.agg_evaluation.specs.Rows.{PlacedRow, row_of}
use Rattle.agg_cost.specs.Capped.{Alike}
use Rattle.agg_cost.specs.Paths.{reached_by, over_paths, AreBelow}
use Rattle.agg_cost.proofs.Handing.{CarryOn, carried}
use Rattle.agg_cost.proofs.handing_on.by_path.Given as goal

abbrev pub invariant-loop-from : goal.invariant-loop-from
invariant-loop-from l = CarryOn l.shard.rows (kind.Nested (l.path + 1)) l.found.items (take l.from-index l.reached) × AreBelow (length l.shard.rows) l.found.items

abbrev pub invariant-loop-row : goal.invariant-loop-row
invariant-loop-row l =
    ((f : PlacedRow → ℕ) → Alike (over_paths f (reached_by l.shard.rows l.found.items))
    (over_paths (carried l.shard.rows (kind.Nested (l.path + 1)) f) (reached_by l.shard.rows (take l.from-index l.reached))
    + l.from.paths * sum_by f (map (row_of l.shard.rows) (take l.row-index l.row-items))))
    × AreBelow (length l.shard.rows) l.found.items
