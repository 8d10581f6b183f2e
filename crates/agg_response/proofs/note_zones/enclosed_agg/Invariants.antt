use Rattle.std.proofs.Common.{◌≡◌, drop}
use Rattle.agg_spec.specs.NoteZones.{enclosed_aggs}
use Rattle.agg_response.proofs.note_zones.enclosed_agg.Given as goal

-- what the places that are left enclose, from here on
abbrev pub invariant-loop-around : goal.invariant-loop-around
invariant-loop-around l = enclosed_aggs (drop l.around-index l.places) l.within ≡ enclosed_aggs l.places l.aggs
