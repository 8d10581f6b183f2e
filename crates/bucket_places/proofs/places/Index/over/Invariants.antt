use Rattle.std.proofs.Common.{take}
use Rattle.bucket_places.specs.Places.{IsIndexed}
use Rattle.bucket_places.proofs.places.Index.over.Given as goal

-- the index is of the codes so far
abbrev pub invariant-loop-place : goal.invariant-loop-place
invariant-loop-place l = IsIndexed (take l.place l.codes) l.index.table.items l.index.others
