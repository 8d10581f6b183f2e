use Rattle.std.proofs.Common.{◌≡◌, []}
use Rattle.serde_json.specs.View.{members_view}
use Rattle.json_walk.specs.Places.{pointer}
use Rattle.agg_reading.specs.After.{parts_from}
use Rattle.request_kinds.proofs.after.parts.Given as goal

abbrev pub invariant-loop-name : goal.invariant-loop-name
invariant-loop-name l =
    parts_from l.sources (pointer l.at) l.parts (members_view l.name-iterator) ≡ parts_from l.sources (pointer l.at) [] (members_view l.members.entries)
