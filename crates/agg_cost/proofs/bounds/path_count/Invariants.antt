use Rattle.std.proofs.Common.{◌≡◌, List, take}
use Rattle.agg_evaluation.specs.Ceiling.{path_count}
use Rattle.agg_evaluation.specs.Rows.{PlacedRow}
use Rattle.agg_cost.specs.Capped.{capped}
use Rattle.agg_cost.specs.Paths.{reached_by}
use Rattle.agg_cost.proofs.bounds.path_count.Given as goal

abbrev pub invariant-loop-from : goal.invariant-loop-from
invariant-loop-from l = (rows : List PlacedRow) → l.count ≡ capped (path_count (reached_by rows (take l.from-index l.reached)))
