use Rattle.std.proofs.Common.{◌≡◌, [], length, map, take}
use Rattle.agg_response.specs.Seen.{seen_note, seen_notes}
use Rattle.agg_response.proofs.PartLaws.{ArePlaced}
use Rattle.agg_response.proofs.notes.Seen.parts.Given as goal

-- as many lists as places so far, without a note
abbrev pub invariant-loop : goal.invariant-loop
invariant-loop l = record {
  many : length l.parts.items ≡ l.counter;
  empty : ArePlaced l.counter [] (map seen_notes l.parts.items);
}

-- the notes so far, each in the list of its first place
abbrev pub invariant-loop-zoned : goal.invariant-loop-zoned
invariant-loop-zoned l = ArePlaced l.places (map seen_note (take l.zoned-index l.zoned-items)) (map seen_notes l.parts.items)
