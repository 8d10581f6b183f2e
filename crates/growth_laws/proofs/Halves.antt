-- Each tree that is built on the way is below half the ceiling of its task.
use Rattle.std.specs.Prelude.{◌≡◌, ℕ, ◌+◌, ◌*◌, ◌≤◌, if◌then◌else◌, T, List, Some}
use Rattle.std.proofs.Common.{arith}
use Rattle.agg_model.specs.declared.mapping.FieldKind.{FieldKind}
use Rattle.agg_model.specs.declared.aggregation.Search.{Search}
use Rattle.agg_evaluation.specs.Ceiling.{ceiling}
use Rattle.agg_evaluation.specs.Cost.{cost}
use Rattle.agg_evaluation.specs.Placement.{has_globals_at_top}
use Rattle.agg_evaluation.specs.Rows.{PlacedRow}
use Rattle.agg_evaluation.specs.Trace.{built, task_overhead}
use Rattle.evaluation_laws.proofs.TaskLaws.{ceiling-is, built-bounded}

-- the overhead and the tree of so many rows, twice
pub twice-tree : (kinds : List FieldKind) (search : Search) (all : List PlacedRow) (bound n : ℕ) → T (has_globals_at_top search) → ceiling kinds search all ≡ Some bound
    → 2 * (task_overhead + cost (built search all n)) ≤ bound
twice-tree kinds search all bound n placed e =
    let is = ceiling-is kinds search all bound e in
    let tree = built-bounded kinds search all placed n in
    omega arith
