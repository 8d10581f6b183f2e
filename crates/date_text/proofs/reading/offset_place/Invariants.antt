use Rattle.std.proofs.Common.{◌≡◌, take}
use Rattle.std.specs.List.{position_or_len}
use Rattle.date_spec.specs.DateTexts.{begins_offset}
use Rattle.date_text.proofs.reading.offset_place.Given as goal

abbrev pub invariant-loop-index : goal.invariant-loop-index
invariant-loop-index l = position_or_len begins_offset (take l.index l.text) ≡ l.index
