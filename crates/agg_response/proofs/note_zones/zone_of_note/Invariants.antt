use Rattle.std.proofs.Common.{◌≡◌, drop}
use Rattle.agg_spec.specs.NoteZones.{zone_of_note}
use Rattle.agg_response.specs.NoteZones.{dated_values}
use Rattle.agg_response.proofs.note_zones.zone_of_note.Given as goal

-- the note is one of the pipelines that are left, if it is one of them
abbrev pub invariant-loop-said : goal.invariant-loop-said
invariant-loop-said l = zone_of_note (dated_values (drop l.said-index l.dated)) l.note ≡ zone_of_note (dated_values l.dated) l.note
