use Rattle.std.proofs.Common.{◌≡◌, drop, []}
use Rattle.serde_json.specs.View.{items_view}
use Rattle.json_walk.specs.Places.{pointer}
use Rattle.agg_reading.specs.Pipelines.{sort_orders_from}
use Rattle.request_pipes.proofs.members.sort_order_list.Given as goal

abbrev pub invariant-loop-place : goal.invariant-loop-place
invariant-loop-place l =
    sort_orders_from (pointer l.at) l.place l.orders (items_view (drop l.place l.items.items)) ≡ sort_orders_from (pointer l.at) 0 [] (items_view l.items.items)
