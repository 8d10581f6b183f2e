use Rattle.std.proofs.Common.{◌≡◌, drop, []}
use Rattle.serde_json.specs.View.{items_view}
use Rattle.json_walk.specs.Places.{pointer}
use Rattle.agg_reading.specs.Composite.{sources_from}
use Rattle.request_kinds.proofs.sources.source_list.Given as goal

abbrev pub invariant-loop-place : goal.invariant-loop-place
invariant-loop-place l =
    sources_from l.mapping (pointer l.at) l.place l.sources (items_view (drop l.place l.items.items)) ≡ sources_from l.mapping (pointer l.at) 0 [] (items_view l.items.items)
