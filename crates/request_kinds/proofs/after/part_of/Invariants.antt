use Rattle.std.proofs.Common.{◌≡◌, drop}
use Rattle.request_kinds.specs.Pages.{part_named}
use Rattle.request_kinds.proofs.after.part_of.Given as goal

abbrev pub invariant-loop-part : goal.invariant-loop-part
invariant-loop-part l = part_named l.name (drop l.part-index l.parts) ≡ part_named l.name l.parts
