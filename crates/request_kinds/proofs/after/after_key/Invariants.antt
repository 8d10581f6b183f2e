use Rattle.std.proofs.Common.{◌≡◌, ◌++◌, drop}
use Rattle.request_kinds.specs.Pages.{parts_of}
use Rattle.request_kinds.proofs.after.after_key.Given as goal

abbrev pub invariant-loop-source : goal.invariant-loop-source
invariant-loop-source l = l.keys ++ parts_of l.after.parts (drop l.source-index l.sources) ≡ parts_of l.after.parts l.sources
