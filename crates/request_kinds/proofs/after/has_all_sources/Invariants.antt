use Rattle.std.proofs.Common.{◌≡◌, drop}
use Rattle.std.specs.List.{list_all}
use Rattle.serde_json.specs.View.{members_view}
use Rattle.agg_reading.specs.Json.{is_among}
use Rattle.agg_reading.specs.After.{names_of, source_names}
use Rattle.request_kinds.proofs.after.has_all_sources.Given as goal

abbrev pub invariant-loop-source : goal.invariant-loop-source
invariant-loop-source l =
    list_all (is_among (names_of (members_view l.members.entries))) (source_names (drop l.source-index l.sources)) ≡ list_all (is_among (names_of (members_view l.members.entries))) (source_names l.sources)
