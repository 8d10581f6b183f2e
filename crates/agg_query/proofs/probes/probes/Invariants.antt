use Rattle.std.proofs.Common.{◌≡◌, drop, []}
use Rattle.serde_json.specs.View.{items_view}
use Rattle.json_walk.specs.Places.{pointer}
use Rattle.agg_reading.specs.Leaves.{values_from}
use Rattle.agg_query.proofs.probes.probes.Given as goal

abbrev pub invariant-loop-place : goal.invariant-loop-place
invariant-loop-place l =
    values_from l.kind (pointer l.at) l.place l.found (items_view (drop l.place l.items.items)) ≡ values_from l.kind (pointer l.at) 0 [] (items_view l.items.items)
