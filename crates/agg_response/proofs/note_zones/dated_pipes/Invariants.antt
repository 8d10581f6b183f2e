use Rattle.std.proofs.Common.{◌≡◌, take}
use Rattle.agg_spec.specs.NoteZones.{dated_among}
use Rattle.agg_response.specs.NoteZones.{dated_values}
use Rattle.agg_response.proofs.note_zones.dated_pipes.Given as goal

-- those among the pipelines so far
abbrev pub invariant-loop-pipe : goal.invariant-loop-pipe
invariant-loop-pipe l = dated_values l.dated.items ≡ dated_among l.search l.mapping (take l.pipe-index l.pipe-items)
