use Rattle.std.proofs.Common.{◌≡◌}
use Rattle.std.specs.List.{list_all}
use Rattle.serde_json.specs.View.{members_view}
use Rattle.agg_reading.specs.Json.{is_among}
use Rattle.agg_reading.specs.After.{names_of, source_names}
use Rattle.request_kinds.proofs.after.has_only_sources.Given as goal

abbrev pub invariant-loop-name : goal.invariant-loop-name
invariant-loop-name l =
    list_all (is_among (source_names l.sources)) (names_of (members_view l.name-iterator)) ≡ list_all (is_among (source_names l.sources)) (names_of (members_view l.members.entries))
