-- Where a value stands, as a pointer (RFC 6901).
use Rattle.std.specs.Prelude.{ℕ, List, ◌++◌}
use Rattle.agg_reading.specs.Pointer.{member_step, item_step}
use Rattle.json_walk.specs.declared.at.At.{At, Start, Member', Item'}

abbrev pub pointer : At → List ℕ
pointer (Start text) = text.now
pointer (Member' p at name) = pointer at ++ member_step name.now
pointer (Item' p at n) = pointer at ++ item_step n
