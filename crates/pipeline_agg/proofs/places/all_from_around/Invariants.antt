use Rattle.std.proofs.Common.{◌≡◌, ◌++◌, map}
use Rattle.std.specs.Vec.Iter.{into_iter_items}
use Rattle.agg_spec.specs.Notes.{note_from_around}
use Rattle.pipeline_agg.proofs.places.all_from_around.Given as goal

-- those that were moved, and those that are left
abbrev pub invariant-loop-note : goal.invariant-loop-note
invariant-loop-note l = l.moved ++ map (note_from_around l.place) (into_iter_items l.note-iterator) ≡ map (note_from_around l.place) l.fn.notes
