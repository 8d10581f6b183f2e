use Rattle.std.proofs.Common.{◌≡◌, map, take}
use Rattle.agg_spec.specs.NoteZones.{zoned_note}
use Rattle.agg_response.specs.NoteZones.{dated_values}
use Rattle.agg_response.specs.Seen.{seen_note}
use Rattle.agg_response.proofs.notes.Seen.all.Given as goal

-- the notes so far, each with its zone
abbrev pub invariant-loop-note : goal.invariant-loop-note
invariant-loop-note l = map seen_note l.seen.items ≡ map (zoned_note (dated_values l.dated.items)) (take l.note-index l.note-items)
