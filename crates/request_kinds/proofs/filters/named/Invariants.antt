use Rattle.std.proofs.Common.{◌≡◌, ◌≤◌, []}
use Rattle.serde_json.specs.View.{members_view}
use Rattle.json_walk.specs.Places.{pointer}
use Rattle.agg_reading.specs.Filters.{named_from}
use Rattle.request_kinds.proofs.filters.named.Given as goal

abbrev pub invariant-loop-name : goal.invariant-loop-name
invariant-loop-name l = record {
  few : l.count ≤ 1024;
  rest : named_from l.mapping l.context (pointer l.at) l.names l.filters l.count (members_view l.name-iterator) ≡ named_from l.mapping l.context (pointer l.at) [] [] l.before (members_view l.members.entries);
}
