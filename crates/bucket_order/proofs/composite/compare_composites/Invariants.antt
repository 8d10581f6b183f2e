use Rattle.std.proofs.Common.{◌≡◌, drop}
use Rattle.bucket_order.specs.Composites.{any_parts_cmp, key_parts}
use Rattle.bucket_order.proofs.composite.compare_composites.Given as goal

-- the parts so far tie
abbrev pub invariant-loop-source : goal.invariant-loop-source
invariant-loop-source l = any_parts_cmp (drop l.source-index l.source-items) l.left l.right ≡ any_parts_cmp l.source-items (key_parts l.a) (key_parts l.b)
