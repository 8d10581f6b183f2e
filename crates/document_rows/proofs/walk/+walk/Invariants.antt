use Rattle.std.proofs.Common.{◌≡◌, drop, string_bytes, length}
use Rattle.lent_json.specs.View.{items_view, members_view}
use Rattle.agg_reading.specs.Document.{items_at, members_at}
use Rattle.document_rows.specs.States.{state_of}
use Rattle.document_rows.proofs.walk.+walk.Given as goal

abbrev pub invariant-items-loop-item : goal.invariant-items-loop-item
invariant-items-loop-item l = record {
  path : string_bytes l.walked.path ≡ string_bytes l.initial.walked.path;
  rest : items_at l.mapping l.role l.context (string_bytes l.initial.walked.path) (state_of l.walked) (items_view (drop l.item-index l.items.items)) ≡ items_at l.mapping l.role l.context (string_bytes l.initial.walked.path) (state_of l.initial.walked) (items_view l.items.items);
}

abbrev pub invariant-members-loop-name : goal.invariant-members-loop-name
invariant-members-loop-name l = record {
  end : l.end ≡ length (string_bytes l.initial.walked.path);
  path : string_bytes l.walked.path ≡ string_bytes l.initial.walked.path;
  rest : members_at l.mapping l.context (string_bytes l.initial.walked.path) (state_of l.walked) (members_view (drop l.name-index l.members.items)) ≡ members_at l.mapping l.context (string_bytes l.initial.walked.path) (state_of l.initial.walked) (members_view l.members.items);
}
