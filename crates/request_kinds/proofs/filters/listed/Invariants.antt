use Rattle.std.proofs.Common.{◌≡◌, ◌≤◌, drop, []}
use Rattle.serde_json.specs.View.{items_view}
use Rattle.json_walk.specs.Places.{pointer}
use Rattle.agg_reading.specs.Filters.{listed_from}
use Rattle.request_kinds.proofs.filters.listed.Given as goal

abbrev pub invariant-loop-place : goal.invariant-loop-place
invariant-loop-place l = record {
  few : l.count ≤ 1024;
  rest : listed_from l.mapping l.context (pointer l.at) l.place l.filters l.count (items_view (drop l.place l.items.items)) ≡ listed_from l.mapping l.context (pointer l.at) 0 [] l.before (items_view l.items.items);
}
