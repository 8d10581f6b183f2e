use Rattle.std.proofs.Common.{◌≡◌, drop, map}
use Rattle.serde_json.specs.View.{members_view}
use Rattle.agg_spec.specs.AnswerTree.{note_members}
use Rattle.agg_spec.specs.Json.{with_members}
use Rattle.agg_response.specs.Seen.{seen_note, seen_notes}
use Rattle.agg_response.proofs.notes.with_notes.Given as goal

-- the notes that are left still have to be put
abbrev pub invariant-loop-zoned : goal.invariant-loop-zoned
invariant-loop-zoned l =
    with_members (note_members (map seen_note (drop l.zoned-index l.zoned-items))) (members_view l.object.members.entries)
    ≡ with_members (note_members (seen_notes l.seen)) (members_view l.initial.object.members.entries)
