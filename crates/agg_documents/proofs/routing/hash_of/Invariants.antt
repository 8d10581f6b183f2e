use Rattle.std.proofs.Common.{◌≡◌, fold, drop}
use Rattle.agg_reading.specs.Routing.{with_byte, offset_basis}
use Rattle.agg_documents.proofs.routing.hash_of.Given as goal

abbrev pub invariant-loop-byte : goal.invariant-loop-byte
invariant-loop-byte l = fold with_byte l.word (drop l.byte-index l.bytes) ≡ fold with_byte offset_basis l.bytes
