use Rattle.std.proofs.Common.{◌≡◌, drop}
use Rattle.agg_spec.specs.NoteZones.{stands_within}
use Rattle.agg_response.proofs.note_zones.stands_within.Given as goal

-- what is left stands within the places that are left
abbrev pub invariant-loop-place : goal.invariant-loop-place
invariant-loop-place l = stands_within (drop l.place-index l.places) l.left ≡ stands_within l.places l.at
