use Rattle.std.proofs.Common.{◌≡◌, drop}
use Rattle.bucket_order.specs.Composites.{any_parts_cmp}
use Rattle.composite_agg.specs.Odometer.{shown_parts}
use Rattle.composite_agg.proofs.sought.compare_parts.Given as goal

-- the parts so far tie
abbrev pub invariant-loop-place : goal.invariant-loop-place
invariant-loop-place l = any_parts_cmp (drop l.place l.sources) (drop l.place l.parts) (drop l.place (shown_parts l.wheels)) ≡ any_parts_cmp l.sources l.parts (shown_parts l.wheels)
