use Rattle.std.proofs.Common.{◌≡◌, drop, []}
use Rattle.serde_json.specs.View.{items_view}
use Rattle.json_walk.specs.Places.{pointer}
use Rattle.agg_reading.specs.Leaves.{ids_from}
use Rattle.agg_query.proofs.leaves.id_list.Given as goal

abbrev pub invariant-loop-place : goal.invariant-loop-place
invariant-loop-place l =
    ids_from (pointer l.at) l.place l.ids (items_view (drop l.place l.items.items)) ≡ ids_from (pointer l.at) 0 [] (items_view l.items.items)
