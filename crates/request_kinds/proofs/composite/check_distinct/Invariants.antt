use Rattle.std.proofs.Common.{◌≡◌, take, drop, []}
use Rattle.json_walk.specs.Places.{pointer}
use Rattle.agg_reading.specs.After.{source_names, distinct_from}
use Rattle.request_kinds.proofs.composite.check_distinct.Given as goal

abbrev pub invariant-loop-place : goal.invariant-loop-place
invariant-loop-place l =
    distinct_from (pointer l.at) l.place (source_names (take l.place l.sources)) (source_names (drop l.place l.sources)) ≡ distinct_from (pointer l.at) 0 [] (source_names l.sources)
