-- Notes as they are seen from an object of an answer ('Pipeline aggregations').
use Rattle.std.specs.Prelude.{◌≡◌, ℕ, ◌<◌, List, [], map, slice_get}
use Rattle.std.specs.Option.{option_map_or}
use Rattle.agg_spec.specs.AnswerTree.{ZonedNote, notes_within}
use Rattle.agg_response.specs.declared.notes.Seen.{Seen}
use Rattle.agg_response.specs.declared.notes.Zoned.{Zoned}

-- a note with its places from the object on
abbrev pub seen_note : Zoned → ZonedNote
seen_note n = record { zone = n.zone; note = record n.note.now { at = n.at.now } }

abbrev pub seen_notes : Seen → List ZonedNote
seen_notes s = map seen_note s.notes.items

-- the lists are those of the first places; a place without a list has no note
abbrev pub AreParts : List ZonedNote → ℕ → List Seen → Type 0
AreParts notes places parts = (i : ℕ) → i < places → option_map_or seen_notes (slice_get parts i) [] ≡ notes_within i notes
