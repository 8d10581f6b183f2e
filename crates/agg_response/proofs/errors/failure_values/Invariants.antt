use Rattle.std.proofs.Common.{◌≡◌, ◌++◌, map, drop}
use Rattle.serde_json.specs.View.{view}
use Rattle.agg_spec.specs.ErrorLines.{failure_value}
use Rattle.agg_response.proofs.errors.failure_values.Given as goal

-- the values so far, and then those of the failures that are left
abbrev pub invariant-loop-failure : goal.invariant-loop-failure
invariant-loop-failure l =
    map view l.values.items.items ++ map failure_value (drop l.failure-index l.failure-items) ≡ map failure_value l.failure-items
